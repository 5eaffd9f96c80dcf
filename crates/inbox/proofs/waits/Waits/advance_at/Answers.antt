use Rattle.std.proofs.Common.{◌<◌, sym, ap, subst, ◌∙◌}
use Rattle.ids.proofs.SearchedVectors.{counted_at, named_there}
use Rattle.semantics.specs.Ids.{OpId}
use Rattle.semantics.specs.Vectors.{Vector}
use Rattle.inbox.proofs.KeptAwaits.{seen_awaiting}
use Rattle.inbox.proofs.waits.Waits.advance_at.Goals as goal

pub move_met-requires-clause-applied : goal.move_met-requires-clause-applied
move_met-requires-clause-applied c =
    let v : Vector = c.args.applied.now in
    let a : OpId = c.index-applied-position.result in
    ap (λ (x : OpId). x.counter) c.index-applied-position.is
    ∙ sym (named_there v c.requires.canonical c.args.position a a.replica c.requires.within
    (ap (λ (x : OpId). x.replica) (sym c.index-applied-position.is)))

pub see-requires-clause-counted : goal.see-requires-clause-counted
see-requires-clause-counted c =
    subst (λ (x : OpId). 0 < x.counter) (sym c.index-applied-position.is)
    (counted_at c.args.applied.now c.requires.canonical c.args.position c.index-applied-position.result c.requires.within)

pub returns-clause-kept : goal.returns-clause-kept
returns-clause-kept c es h =
    seen_awaiting c.move_met.new.ops es c.move_met.new.self c.see.new.self c.see.ensures.awaits c.see.ensures.ready c.see.ensures.unseen
    (c.move_met.ensures.kept es h)
