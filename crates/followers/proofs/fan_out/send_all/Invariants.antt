use Rattle.followers.specs.Feeds.{AreFed}
use Rattle.followers.proofs.fan_out.send_all.Given as goal

abbrev pub invariant-loop-feed : goal.invariant-loop-feed
invariant-loop-feed l = AreFed l.fn.document.entries l.fn.feeds → AreFed l.fn.document.entries l.feeds
