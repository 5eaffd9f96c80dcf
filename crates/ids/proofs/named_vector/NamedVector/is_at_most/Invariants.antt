-- What is left decides.
use Rattle.std.proofs.Common.{◌≡◌, drop}
use Rattle.ids.specs.Vectors.{is_at_most}
use Rattle.ids.proofs.named_vector.NamedVector.is_at_most.Given as goal

abbrev pub invariant-loop-index : goal.invariant-loop-index
invariant-loop-index l = is_at_most (drop l.index l.self) l.others ≡ is_at_most l.self l.others
