use Rattle.semantics.specs.WorldHistory.{BeginsWith}
use Rattle.followers.specs.Feeds.{ShowsWhatCame}
use Rattle.jdoc_c.proofs.reader.take_all.Given as goal

abbrev pub invariant-loop : goal.invariant-loop
invariant-loop l = record {
  follows : ShowsWhatCame l.fn.follower → ShowsWhatCame l.follower;
  grows : BeginsWith l.follower.document.entries l.fn.follower.document.entries;
}
