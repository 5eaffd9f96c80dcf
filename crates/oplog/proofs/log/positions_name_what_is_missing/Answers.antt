use Rattle.oplog.proofs.Missing.{positions-read}
use Rattle.oplog.proofs.log.positions_name_what_is_missing.Goals as goal

pub returns : goal.returns
returns c = positions-read
