use Rattle.std.proofs.Common.{rules, ◌≡◌, IsTrue, false, ap, ◌∙◌, subst}
use Rattle.semantics.specs.Ids.{OpId}
use Rattle.semantics.specs.LegalHistory.{has_id}
use Rattle.semantics.specs.Stamped.{Stamped}
use Rattle.semantics.specs.Entries.{applied}
use Rattle.operation.specs.declared.op.Op.{Op}
use Rattle.parts_tests.proofs.tests.of_oplog.append.Goals as goal

pub push-requires-clause-new : goal.push-requires-clause-new
push-requires-clause-new c =
    let fits : IsTrue c.fits.result = search rules in
    subst (λ (b : OpId). has_id (applied c.reserve_one.new.self.entries) b ≡ false)
    (ap (λ (o : Op). o.id) c.deref.ensures ∙ ap (λ (s : Stamped). s.id) c.op.ensures.stamped)
    (c.fits.ensures.new fits)
