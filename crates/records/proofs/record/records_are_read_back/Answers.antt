use Rattle.records.proofs.ReadBack.{record_back}
use Rattle.records.proofs.record.records_are_read_back.Goals as goal

pub returns : goal.returns
returns c = record_back
