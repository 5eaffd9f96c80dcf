use Rattle.std.proofs.Common.{rules, ◌≡◌, Result, Ok, Err, sym, subst}
use Rattle.std.specs.Prelude.{IfErr, IsErrAnd}
use Rattle.ids.specs.declared.refusal.Refusal.{Refusal}
use Rattle.engine.proofs.opening.prepare.Goals as goal

pub own_number-own-requires : goal.own_number-own-requires
own_number-own-requires c = search rules

pub invariant_of-result : goal.invariant_of-result
invariant_of-result c = search rules

pub returns-clause-bad_config : goal.returns-clause-bad_config
returns-clause-bad_config c = search rules

-- a refusal that is passed on
passed : {T : Type 0} (r : Result T Refusal) (why : Refusal) (P : Refusal → Type 0) → IsErrAnd r (λ y. y ≡ why) → P why → IfErr r P
passed (Ok x) why P e h = tt
passed (Err y) why P e h = subst P (sym e) h

pub returns-in_err-first-clause-err : goal.returns-in_err-first-clause-err
returns-in_err-first-clause-err c =
    passed c.from_residual-in_err-first.result c.in_err-first.field-0.0 _ c.from_residual-in_err-first.ensures.1 c.in_err-first.ensures.err
