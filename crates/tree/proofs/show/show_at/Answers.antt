use Rattle.std.proofs.Common.{false, map}
use Rattle.semantics.specs.Elements.{is_under}
use Rattle.operation.specs.cursor.Steps.{hop_of}
use Rattle.tree.specs.Writes.{end_of}
use Rattle.tree.proofs.Showing.{but_none, or_none}
use Rattle.tree.proofs.show.show_at.Goals as goal

pub returns-clause-shown : goal.returns-clause-shown
returns-clause-shown c = λ s.
    let t = end_of (map hop_of c.args.path.now) in
    but_none c.show_path-end.new.nodes
    (c.show_path-end.ensures.shown (λ x. false) (or_none c.args.nodes.now (is_under t) s))
