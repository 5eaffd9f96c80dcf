-- When a journal has lost entries that were handed out.
use Rattle.std.specs.Prelude.{ℕ, Bool, nat_lt, List}
use Rattle.semantics.specs.Entries.{Entry, applied}
use Rattle.semantics.specs.NamedIds.{vector_of}
use Rattle.semantics.specs.Vectors.{Vector, at}

-- v names more operations of the replica than were applied
abbrev pub is_beyond : (replica : ℕ) → List Entry → Vector → Bool
is_beyond p G v = nat_lt (at (vector_of (applied G)) p) (at v p)
