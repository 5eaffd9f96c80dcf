use Rattle.std.proofs.Common.{◌≡◌, ◌<◌, [], ℕ, length, Some, ap, ◌∙◌, get_or}
use Rattle.std.proofs.lemmas.Option.{get_or_from_slice_get}
use Rattle.semantics.specs.Elements.{Name}
use Rattle.semantics.specs.Paths.{FieldHop}
use Rattle.tree.specs.Nodes.{links, links_of, child_number, next_number}
use Rattle.tree.proofs.Links.{field_there}
use Rattle.tree.proofs.walk.keyed_field_at.Goals as goal
use Rattle.tree.proofs.walk.keyed_field_at.Goals.{After-new}

entry : (c : After-new) (d : Name × ℕ)
    → child_number c.args.nodes.now c.args.at (FieldHop (get_or (links c.args.nodes.now c.args.at).0 c.args.position d).0)
    ≡ Some c.at-number.result.1
entry c d =
    let ns = c.args.nodes.now in
    let here = ap (λ o. (links_of o).0) c.node_at.ensures in
    field_there ns c.requires.tree c.args.at c.args.position d c.requires.within
    ∙ ap (λ fs. Some (get_or fs c.args.position d).1) here
    ∙ ap (λ f. Some f.1) (get_or_from_slice_get _ c.args.position (c.at-number.result.0.now, c.at-number.result.1) d c.at-number.ensures)

risen : (c : After-new) → (c.args.at < c.at-number.result.1) × (c.at-number.result.1 < length c.args.nodes.now)
risen c =
    c.requires.tree.rising c.args.at (FieldHop (get_or (links c.args.nodes.now c.args.at).0 c.args.position ([], 0)).0)
    c.at-number.result.1 (entry c ([], 0))

pub returns-clause-key : goal.returns-clause-key
returns-clause-key c = λ d.
    let here = ap (λ o. (get_or (links_of o).0 c.args.position d).0) c.node_at.ensures in
    here ∙ ap (λ f. f.0) (get_or_from_slice_get _ c.args.position (c.at-number.result.0.now, c.at-number.result.1) d c.at-number.ensures)

pub returns-clause-above : goal.returns-clause-above
returns-clause-above c = rw c.new.ensures (risen c).0

pub returns-clause-within : goal.returns-clause-within
returns-clause-within c = rw c.new.ensures (risen c).1

pub returns-clause-number : goal.returns-clause-number
returns-clause-number c = λ e d p. rw c.new.ensures
    (ap (λ o. next_number c.args.nodes.now o (FieldHop (get_or (links c.args.nodes.now c.args.at).0 c.args.position d).0)) p ∙ entry c d)
