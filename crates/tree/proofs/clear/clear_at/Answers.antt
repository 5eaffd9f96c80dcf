use Rattle.std.proofs.Common.{◌≡◌, Some, false, map, sym, ◌∙◌}
use Rattle.semantics.specs.DocumentAnswer.{is_any}
use Rattle.operation.specs.cursor.Steps.{hop_of}
use Rattle.std.specs.Prelude.{slice_get}
use Rattle.tree.specs.Nodes.{number, presence_of}
use Rattle.tree.specs.Writes.{deps_of, end_of}
use Rattle.tree.proofs.Contexts.{clear_none}
use Rattle.tree.proofs.Showing.{but_wider}
use Rattle.tree.proofs.clear.clear_at.Goals as goal

pub clear_of-requires-clause-there : goal.clear_of-requires-clause-there
clear_of-requires-clause-there c = (end_of (map hop_of c.args.path.now), sym c.walk.ensures.number ∙ c.in-Some.is)

pub returns-in-Some-clause-shown : goal.returns-in-Some-clause-shown
returns-in-Some-clause-shown c = λ off s.
    let t = end_of (map hop_of c.args.path.now) in
    let at : number c.args.nodes.now t ≡ Some c.in-Some.at = sym c.walk.ensures.number ∙ c.in-Some.is in
    but_wider c.clear_of.new.nodes (is_any (presence_of (slice_get c.args.nodes.now c.in-Some.at))) t off
    (c.clear_of.ensures.shown t off at s)

pub returns-in-None-clause-cleared : goal.returns-in-None-clause-cleared
returns-in-None-clause-cleared c = clear_none c.args.nodes.now (end_of (map hop_of c.args.path.now)) (deps_of c.args.stamp.now)
    (sym c.walk.ensures.number ∙ c.in-None.is)

pub returns-in-None-clause-shown : goal.returns-in-None-clause-shown
returns-in-None-clause-shown c = λ off s. but_wider c.args.nodes.now false (end_of (map hop_of c.args.path.now)) off s
