use Rattle.std.proofs.Common.{rules}
use Rattle.published.proofs.publisher.show_all.Goals as goal

pub returns : goal.returns
returns g c = search rules
