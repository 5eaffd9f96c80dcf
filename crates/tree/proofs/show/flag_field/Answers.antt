use Rattle.std.proofs.Common.{◌≡◌, ◌<◌, ℕ, Some, refl, sym, ap, ◌∙◌, subst, arith, get_or, length, [], slice_get}
use Rattle.std.proofs.lemmas.Option.{slice_get-get_or}
use Rattle.semantics.specs.Elements.{Name}
use Rattle.semantics.specs.Paths.{FieldHop}
use Rattle.tree.specs.declared.node.Node.{Node}
use Rattle.tree.specs.Nodes.{links, links_of}
use Rattle.tree.proofs.Flagging.{field_empty, field_shown}
use Rattle.tree.proofs.NodeWrites.{room_set}
use Rattle.tree.proofs.Showing.{flag_same}
use Rattle.tree.proofs.Widened.{links_pair}
use Rattle.tree.proofs.show.flag_field.Goals as goal

pub is_present-stands-requires : goal.is_present-stands-requires
is_present-stands-requires c =
    let d : Name × ℕ = ([], 0) in
    (c.requires.tree.rising c.args.at (FieldHop (get_or (links c.args.nodes.now c.args.at).0 c.args.position d).0) c.args.field
    (c.requires.field d)).1

pub set_flag-requires : goal.set_flag-requires
set_flag-requires c = subst (λ o. c.args.position < length (links_of o).0) c.node_at_mut-node.ensures.node c.requires.within

pub returns-clause-same : goal.returns-clause-same
returns-clause-same c =
    let n : Node = c.node_at_mut-node.result.now in
    let m : Node = record n { fields = c.set_flag.new.self } in
    flag_same c.args.nodes.now c.requires.tree c.args.at n m c.node_at_mut-node.ensures.node
    (links_pair m.fields.entries n.fields.entries m.items.entries n.items.entries c.set_flag.ensures.entries refl) refl refl refl refl

pub returns-clause-room : goal.returns-clause-room
returns-clause-room c =
    let n : Node = c.node_at_mut-node.result.now in
    let m : Node = record n { fields = c.set_flag.new.self } in
    room_set c.args.nodes.now c.args.at n m c.node_at_mut-node.ensures.node (omega arith) (omega arith)

pub returns-clause-shown : goal.returns-clause-shown
returns-clause-shown c = λ e off d at s.
    let ns = c.args.nodes.now in
    let n : Node = c.node_at_mut-node.result.now in
    let m : Node = record n { fields = c.set_flag.new.self } in
    let g = c.node_at_mut-node.ensures.node in
    let pair = links_pair m.fields.entries n.fields.entries m.items.entries n.items.entries c.set_flag.ensures.entries refl in
    let same = flag_same ns c.requires.tree c.args.at n m g pair refl refl refl refl in
    let entry = get_or (links ns c.args.at).0 c.args.position d in
    let there : slice_get n.fields.entries c.args.position ≡ Some entry = ap (λ o. slice_get (links_of o).0 c.args.position) (sym g)
    ∙ slice_get-get_or (links ns c.args.at).0 c.args.position d c.requires.within in
    field_shown ns c.requires.tree c.args.at n m g pair refl same e at entry.0 c.is_present-stands.result
    (c.set_flag.ensures.flags entry.0 entry.1 there) c.args.field (c.requires.field d) c.is_present-stands.ensures refl off s

pub returns-clause-empty : goal.returns-clause-empty
returns-clause-empty c = λ e at empty.
    let ns = c.args.nodes.now in
    let n : Node = c.node_at_mut-node.result.now in
    let m : Node = record n { fields = c.set_flag.new.self } in
    let g = c.node_at_mut-node.ensures.node in
    let pair = links_pair m.fields.entries n.fields.entries m.items.entries n.items.entries c.set_flag.ensures.entries refl in
    let same = flag_same ns c.requires.tree c.args.at n m g pair refl refl refl refl in
    let d : Name × ℕ = ([], 0) in
    let entry = get_or (links ns c.args.at).0 c.args.position d in
    let there : slice_get n.fields.entries c.args.position ≡ Some entry = ap (λ o. slice_get (links_of o).0 c.args.position) (sym g)
    ∙ slice_get-get_or (links ns c.args.at).0 c.args.position d c.requires.within in
    field_empty ns c.requires.tree c.args.at n m g pair refl same e at entry.0 c.is_present-stands.result
    (c.set_flag.ensures.flags entry.0 entry.1 there) c.args.field (c.requires.field d) c.is_present-stands.ensures refl empty
