use Rattle.std.proofs.Common.{◌≡◌, ◌<◌, ℕ, length, Some, ap, ◌∙◌, get_or}
use Rattle.std.proofs.lemmas.Option.{get_or_from_slice_get}
use Rattle.semantics.specs.Ids.{OpId}
use Rattle.semantics.specs.Paths.{ItemHop}
use Rattle.tree.specs.Nodes.{links, links_of, child_number, next_number}
use Rattle.tree.proofs.Links.{item_there}
use Rattle.tree.proofs.walk.item_at.Goals as goal
use Rattle.tree.proofs.walk.item_at.Goals.{After-new}

entry : (c : After-new) (d : OpId × ℕ)
    → child_number c.args.nodes.now c.args.at (ItemHop (get_or (links c.args.nodes.now c.args.at).1 c.args.position d).0)
    ≡ Some c.at.result.1
entry c d =
    let ns = c.args.nodes.now in
    let here = ap (λ o. (links_of o).1) c.node_at.ensures in
    item_there ns c.requires.tree c.args.at c.args.position d c.requires.within
    ∙ ap (λ is. Some (get_or is c.args.position d).1) here
    ∙ ap (λ i. Some i.1) (get_or_from_slice_get _ c.args.position c.at.result d c.at.ensures)

risen : (c : After-new) → (c.args.at < c.at.result.1) × (c.at.result.1 < length c.args.nodes.now)
risen c = c.requires.tree.rising c.args.at
    (ItemHop (get_or (links c.args.nodes.now c.args.at).1 c.args.position c.at.result).0) c.at.result.1 (entry c c.at.result)

pub returns-clause-above : goal.returns-clause-above
returns-clause-above c = rw c.new.ensures (risen c).0

pub returns-clause-within : goal.returns-clause-within
returns-clause-within c = rw c.new.ensures (risen c).1

pub returns-clause-number : goal.returns-clause-number
returns-clause-number c = λ e d p. rw c.new.ensures
    (ap (λ o. next_number c.args.nodes.now o (ItemHop (get_or (links c.args.nodes.now c.args.at).1 c.args.position d).0)) p ∙ entry c d)
