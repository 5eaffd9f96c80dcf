use Rattle.std.proofs.Common.{length}
use Rattle.semantics.proofs.NoneDropped.{keeps_for}
use Rattle.semantics.proofs.one_world.drains_drop_nothing.Goals as goal

pub returns : goal.returns
returns c = λ K r l h w of. (let k = keeps_for K l (length r.waiting) r h w of in (k.none_dropped, k.within))
