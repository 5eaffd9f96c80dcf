use Rattle.std.proofs.Common.{not, sym, ap, subst, ◌∙◌}
use Rattle.semantics.specs.Vectors.{IsCanonical, is_at_most}
use Rattle.semantics.specs.Stamped.{Stamped}
use Rattle.oplog.specs.operation.Ops.{stamped_of}
use Rattle.document.specs.Checks.{entry_there, is_beyond}
use Rattle.document.proofs.check.opens.Goals as goal

pub is_at_most-requires : goal.is_at_most-requires
is_at_most-requires c = subst IsCanonical (sym c.ids.ensures.ids) c.ids.ensures.named.canonical

pub returns-in-Some-get : goal.returns-in-Some-get
returns-in-Some-get c =
    let G = c.args.log.now.entries in
    let v = c.args.vector.now in
    ap not (c.is_at_most.ensures ∙ ap (is_at_most c.deref.result.now.deps) c.ids.ensures.ids)
    ∙ ap (λ (s : Stamped). not (is_at_most s.vector v)) (ap stamped_of c.deref.ensures ∙ c.op.ensures.stamped)
    ∙ ap (is_beyond v) c.in-Some-get.ensures
    ∙ ap (λ o. is_beyond v (entry_there o G)) c.in-Some.ensures
