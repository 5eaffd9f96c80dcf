use Rattle.wire.proofs.WrittenLines.{bundle_ended, bundle_in}
use Rattle.wire.proofs.bundles.bundles_are_written_alike.Goals as goal

pub returns-clause-lines : goal.returns-clause-lines
returns-clause-lines c = bundle_in

pub returns-clause-tail : goal.returns-clause-tail
returns-clause-tail c = bundle_ended
