-- The greatest of what was passed and of what is left is that of all.
use Rattle.std.proofs.Common.{◌≡◌, drop, max}
use Rattle.ids.specs.Vectors.{greatest}
use Rattle.ids.proofs.named_vector.greatest_counter.Given as goal

abbrev pub invariant-loop-id : goal.invariant-loop-id
invariant-loop-id l = max l.most (greatest (drop l.id-index l.ids)) ≡ greatest l.ids
