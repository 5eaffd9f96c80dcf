use Rattle.std.proofs.Common.{rules, ◌≡◌, ◌+◌, ◌≤◌, ◌⊎◌, Result, Ok, Err, subst, sym, ap, arith, vec_capacity}
use Rattle.std.specs.Prelude.{IfErr, IsErrAnd}
use Rattle.ids.specs.declared.refusal.Refusal.TheVariants.{NoMemory, NoReaderPlace}
use Rattle.ids.specs.Configurations.{Configuration}
use Rattle.engine.proofs.Limits.{limits}
use Rattle.engine.proofs.opening.open.Goals as goal

pub open-requires-clause-readers : goal.open-requires-clause-readers
open-requires-clause-readers g c =
    let is : c.args.parts.config.clients + c.args.parts.config.readers ≡ c.config.inside.clients + c.config.inside.readers =
    sym (ap (λ (k : Configuration). k.clients + k.readers) c.config.view_is) in
    let l = limits c.args.parts.config c.args.parts.good in
    (omega (arith, is, l.clients.0), omega (arith, is, l.clients.1, l.readers.1))

pub new-writer-requires-clause-batch : goal.new-writer-requires-clause-batch
new-writer-requires-clause-batch g c =
    let is : c.args.parts.config.batch ≡ c.config.inside.batch = sym (ap (λ (k : Configuration). k.batch) c.config.view_is) in
    let room : c.args.parts.config.batch ≤ vec_capacity c.in-Ok.held = search rules in
    (omega (arith, is, (limits c.args.parts.config c.args.parts.good).batch.0), omega (arith, is, room))

-- what holds of the error that is returned
if_err_from : {T E : Type 0} (r : Result T E) (Q P : E → Type 0) → IsErrAnd r Q → ((e : E) → Q e → P e) → IfErr r P
if_err_from (Ok x) Q P h f = tt
if_err_from (Err e) Q P h f = f e h

pub returns-in_err-publisher-clause-err : goal.returns-in_err-publisher-clause-err
returns-in_err-publisher-clause-err g c = if_err_from c.from_residual.result _ _ c.from_residual.ensures.1 (λ e q.
    subst (λ x. (x ≡ NoMemory) ⊎ (x ≡ NoReaderPlace)) (sym q) c.in_err-publisher.ensures.err)
