-- What contracts see of what publishes a replica's entries.
use Rattle.std.specs.Prelude.{◌≡◌, ℕ, List, ◌∷◌}
use Rattle.semantics.specs.Entries.{Entry}
use Rattle.semantics.specs.Replica.{Replica}

-- the replica's number and its members, the entries that readers see, and all that were appended so far; the newest stand first
pub record Publication : Type 0 where
  pub own : ℕ
  pub members : List ℕ
  pub published : List Entry
  pub appended : List Entry

-- with one more entry appended
abbrev pub with_entry : Publication → Entry → Publication
with_entry p e = record p { appended = e ∷ p.appended }

-- just the replica's entries were appended
pub record Holds (p : Publication) (r : Replica) : Type 0 where
  pub own : p.own ≡ r.own
  pub members : p.members ≡ r.members
  pub appended : p.appended ≡ r.entries
