use Rattle.std.proofs.Common.{ap}
use Rattle.columns.specs.ReplicaColumns.{standing}
use Rattle.columns.proofs.WithColumns.{held}
use Rattle.columns.proofs.tag_columns.TagColumns.hold.Goals as goal

pub returns : goal.returns
returns c = held c.args.list c.new.result.items (ap standing c.new.ensures.items) c.len.ensures.indexed
