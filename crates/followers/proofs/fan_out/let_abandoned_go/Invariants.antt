use Rattle.std.proofs.Common.{List}
use Rattle.semantics.specs.Entries.{Entry}
use Rattle.followers.specs.Feeds.{AreFed}
use Rattle.followers.proofs.fan_out.let_abandoned_go.Given as goal

abbrev pub invariant-loop-index : goal.invariant-loop-index
invariant-loop-index l = (G : List Entry) → AreFed G l.fn.feeds.items → AreFed G l.feeds.items
