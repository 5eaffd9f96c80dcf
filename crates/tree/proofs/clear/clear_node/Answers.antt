use Rattle.std.proofs.Common.{refl, ap, ◌∙◌, arith}
use Rattle.operation.specs.cursor.Steps.{tag_of}
use Rattle.operation.specs.value.Values.{scalar_of}
use Rattle.columns.proofs.IndexedEntries.{indices_within}
use Rattle.tree.specs.declared.node.Node.{Node}
use Rattle.tree.specs.Nodes.{tagged, valued}
use Rattle.tree.specs.Writes.{covered_by}
use Rattle.tree.proofs.Mapped.{without-mapped}
use Rattle.tree.proofs.Shape.{links_set}
use Rattle.tree.proofs.Contexts.{context_set, cleared_with}
use Rattle.tree.proofs.NodeWrites.{indexed_at, indexed_set, room_set}
use Rattle.tree.proofs.clear.clear_node.Goals as goal

pub clear-requires : goal.clear-requires
clear-requires c = λ k d h.
    let n : Node = c.node_at_mut-node.result.now in
    let stands = indexed_at c.args.covered.now.table.now.numbers c.args.nodes.now c.args.at n c.node_at_mut-node.ensures.node
    c.requires.indexed in
    let within = indices_within c.args.covered.now.table.now.numbers n.presence.entries n.presence.indices stands.0 k d h in
    let width = c.requires.covered.width in omega arith

pub clear-requires-2 : goal.clear-requires-2
clear-requires-2 c = λ k d h.
    let n : Node = c.node_at_mut-node.result.now in
    let stands = indexed_at c.args.covered.now.table.now.numbers c.args.nodes.now c.args.at n c.node_at_mut-node.ensures.node
    c.requires.indexed in
    let within = indices_within c.args.covered.now.table.now.numbers n.register.entries n.register.indices stands.1 k d h in
    let width = c.requires.covered.width in omega arith

pub returns-clause-links : goal.returns-clause-links
returns-clause-links c =
    let ns = c.args.nodes.now in
    let n : Node = c.node_at_mut-node.result.now in
    let m : Node = record n { presence = c.clear.new.self; register = c.clear-2.new.self } in
    links_set ns c.args.at n m c.node_at_mut-node.ensures.node refl refl refl refl

pub returns-clause-room : goal.returns-clause-room
returns-clause-room c =
    let ns = c.args.nodes.now in
    let n : Node = c.node_at_mut-node.result.now in
    let m : Node = record n { presence = c.clear.new.self; register = c.clear-2.new.self } in
    room_set ns c.args.at n m c.node_at_mut-node.ensures.node c.clear.ensures.room c.clear-2.ensures.room

pub returns-clause-indexed : goal.returns-clause-indexed
returns-clause-indexed c =
    let ns = c.args.nodes.now in
    let table = c.args.covered.now.table.now.numbers in
    let n : Node = c.node_at_mut-node.result.now in
    let m : Node = record n { presence = c.clear.new.self; register = c.clear-2.new.self } in
    let g = c.node_at_mut-node.ensures.node in
    let stands = indexed_at table ns c.args.at n g c.requires.indexed in
    indexed_set table ns c.args.at n m g c.requires.indexed
    (c.clear.ensures.indexed table stands.0, c.clear-2.ensures.indexed table stands.1)

pub returns-clause-cleared : goal.returns-clause-cleared
returns-clause-cleared c = λ e at.
    let ns = c.args.nodes.now in
    let s = c.args.covered.now in
    let n : Node = c.node_at_mut-node.result.now in
    let m : Node = record n { presence = c.clear.new.self; register = c.clear-2.new.self } in
    let g = c.node_at_mut-node.ensures.node in
    let stands = indexed_at s.table.now.numbers ns c.args.at n g c.requires.indexed in
    let width = c.requires.covered.width in
    context_set ns c.requires.tree e c.args.at n m at g refl refl
    ∙ cleared_with ns e c.args.at n m (covered_by s) at g
    (ap tagged (c.clear.ensures.without s.table.now.numbers c.requires.covered.distinct width stands.0)
    ∙ without-mapped tag_of (covered_by s) n.presence.entries)
    (ap valued (c.clear-2.ensures.without s.table.now.numbers c.requires.covered.distinct width stands.1)
    ∙ without-mapped scalar_of (covered_by s) n.register.entries)
    refl
