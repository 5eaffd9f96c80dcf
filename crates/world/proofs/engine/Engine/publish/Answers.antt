use Rattle.std.proofs.Common.{◌≡◌, ◌≤◌, ◌||◌, not, true, false, length, refl, sym, ap, ◌∙◌, subst, arith}
use Rattle.std.proofs.Common.{eqb-true}
use Rattle.semantics.specs.DocumentAnswer.{is_any}
use Rattle.semantics.specs.Entries.{Entry}
use Rattle.semantics.specs.Engine.{Engine as TheEngine}
use Rattle.semantics.specs.Publication.{Publication}
use Rattle.semantics.proofs.Beginnings.{no_shorter}
use Rattle.world.specs.Engines.{handled_of}
use Rattle.world.specs.Parts.{PublishesInPart}
use Rattle.world.specs.contracts.engine.Engine.{the_view}
use Rattle.world.proofs.WholeSteps.{none_mapped, not_zero, some_mapped}
use Rattle.world.proofs.Results.{on_err}
use Rattle.world.proofs.engine.Engine.publish.Goals as goal

pub returns-in_err-publish-clause-stopped : goal.returns-in_err-publish-clause-stopped
returns-in_err-publish-clause-stopped c =
    let I = c.self.inside in
    let E : TheEngine = the_view I in
    let F : TheEngine = the_view (record I { publisher = c.publish.new.self }) in
    let p : Publication = c.publish.new.self in
    let all : p.appended ≡ E.replica.entries = ap (λ (q : Publication). q.appended) c.publish.ensures.partly ∙ c.self.invariant.appended in
    let short : length p.published ≤ length p.appended = no_shorter p.appended p.published c.publish.ensures.begins in
    let none : length I.due.items ≡ 0 = (let e = eqb-true _ _ (sym c.is_empty.ensures ∙ c.if-not-is_empty.false) in omega (arith, e)) in
    let some : length I.handled.items ≡ 0
    → ⊥ = λ z. not_zero _ (sym c.is_empty-else-not-is_empty.ensures ∙ c.if-is_empty.false) (omega (arith, z)) in
    let due : is_any E.due ≡ false = none_mapped handled_of I.due.items none in
    let handled : is_any E.handled ≡ true = some_mapped handled_of I.handled.items some in
    let part : PublishesInPart E F = record {
      free = λ i. due i || not (handled i);
      more = no_shorter p.published I.publisher.published c.publish.ensures.more;
      within = (let l = ap (length {A = Entry}) all in omega (arith, l, short));
      same = refl;
    } in
    on_err c.from_residual.result (subst (λ A. PublishesInPart A F) c.self.view_is part)
