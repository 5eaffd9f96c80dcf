use Rattle.std.proofs.Common.{refl, ap}
use Rattle.std.specs.Vec.{with_item}
use Rattle.tree.proofs.ListReads.{get_read}
use Rattle.tree.proofs.grow.node_in_vec.Goals as goal

pub returns : goal.returns
returns c =
    let there = get_read c.args.nodes.now.items c.args.at c.index_mut.result.now c.requires
    (rw c.index.ensures at c.index_mut.ensures.value) in
    ((refl, λ w. ap (λ i. with_item c.args.nodes.now i w) c.index.ensures), record { lends = tt; node = there })
