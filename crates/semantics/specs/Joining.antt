-- The table of replicas that a history leaves, and the first test of a ready operation: whether there is room in it.
use Rattle.std.specs.Prelude.{ℕ, cond, ⊤, IsFalse, List, [], ◌∷◌, Option, Some}
use Rattle.ids.specs.Tables.{joined, lacks_room}
use Rattle.ids.specs.declared.refusal.Refusal.{Refusal}
use Rattle.ids.specs.declared.refusal.Refusal.TheVariants.{UnknownReplica}
use Rattle.semantics.specs.Stamped.{Stamped}
use Rattle.semantics.specs.Faults.{fault_of}
use Rattle.semantics.specs.Entries.{Entry, stamped_in, stamped_entries}

-- p is behind the others, unless it is there or there is no room for it
abbrev pub joined_within : ℕ → List ℕ → List ℕ
joined_within p ps = cond (lacks_room ps p) ps (joined p ps)

-- the table, and then each other replica of these in the order of its first operation, up to 256 numbers
abbrev pub table_with : (table : List ℕ) → List Stamped → List ℕ
table_with ps [] = ps
table_with ps (s ∷ F) = joined_within s.id.replica (table_with ps F)

-- the members, and then each other replica in the order of its first operation, up to 256 numbers
abbrev pub table_after : (members : List ℕ) → List Entry → List ℕ
table_after ms G = table_with ms (stamped_entries G)

-- the table had room for the replica of each operation
abbrev pub HadRoom : (members : List ℕ) → List Entry → Type 0
HadRoom ms [] = ⊤
HadRoom ms (e ∷ G) = HadRoom ms G × IsFalse (lacks_room (table_after ms G) (stamped_in e).id.replica)

-- the first fault of a ready operation: the table lacks room for its replica, or else the first against the history
abbrev pub check_fault : (members : List ℕ) → List Stamped → Stamped → Option Refusal
check_fault ms F s = cond (lacks_room (table_with ms F) s.id.replica) (Some UnknownReplica) (fault_of F s)
