use Rattle.std.proofs.Common.{rules}
use Rattle.serde_json.specs.Read.{number_of}
use Rattle.requests.proofs.parts.whole_of.Goals as goal

pub returns : goal.returns
unfolding number_of
returns c = search rules
