-- Entry histories: what a replica made of its clients' commands, and what peers sent, the newest first.
use Rattle.std.specs.Prelude.{◌≡◌, ◌≢◌, ℕ, ◌<◌, cond, not, ◌==◌, nat_lt, ⊤, List, [], ◌∷◌, length, reverse, Option, Some, None, Ok}
use Rattle.std.specs.List.{filter}
use Rattle.semantics.specs.Operations.{Operation}
use Rattle.semantics.specs.Vectors.{Vector, covers}
use Rattle.semantics.specs.NamedIds.{NamesAll}
use Rattle.semantics.specs.Stamped.{Stamped, operation_after, operations_of, MayFollow}
use Rattle.semantics.specs.Making.{Command, make}

-- an own operation with the client, serial and command that it was made of, or one that a peer sent
pub data Entry : Type 0 where
  Own : (client serial : ℕ) (command : Command) (operation : Stamped) → Entry
  Peer : Stamped → Entry

-- the operation of an entry
abbrev pub stamped_in : Entry → Stamped
stamped_in (Own client serial c s) = s
stamped_in (Peer s) = s

-- the operations of the entries, with their vectors
abbrev pub stamped_entries : List Entry → List Stamped
stamped_entries [] = []
stamped_entries (e ∷ G) = stamped_in e ∷ stamped_entries G

-- the operations of the entries
abbrev pub applied : List Entry → List Operation
applied G = operations_of (stamped_entries G)

-- the serial is above each that the client had
abbrev pub IsAbove : (client serial : ℕ) → List Entry → Type 0
IsAbove client serial [] = ⊤
IsAbove client serial (Own k n c s ∷ G) = (k ≡ client → n < serial) × IsAbove client serial G
IsAbove client serial (Peer s ∷ G) = IsAbove client serial G

-- an entry history of replica p: own ones are what was made of the entries before, with rising serials, and a peer's may follow
-- and is not p's
abbrev pub IsEntryHistory : ℕ → List Entry → Type 0
IsEntryHistory p [] = ⊤
IsEntryHistory p (Own client serial c s ∷ G) =
    IsEntryHistory p G × NamesAll (applied G) s.vector × (make (applied G) p c ≡ Ok (operation_after (applied G) s))
    × IsAbove client serial G
IsEntryHistory p (Peer s ∷ G) = IsEntryHistory p G × MayFollow (applied G) s × (s.id.replica ≢ p)

-- entry n, where the oldest is entry 0
abbrev pub entry_at : ℕ → List Entry → Option Entry
entry_at n [] = None
entry_at n (e ∷ G) = cond (length G == n) (Some e) (entry_at n G)

-- the first m entries, or all where there are fewer
abbrev pub first_entries : ℕ → List Entry → List Entry
first_entries m [] = []
first_entries m (e ∷ G) = cond (nat_lt (length G) m) (e ∷ G) (first_entries m G)

-- the operations of the history that v doesn't cover
abbrev pub missing : Vector → List Stamped → List Stamped
missing v G = filter (λ s. not (covers v s.id)) G

-- the operations of the entries that v doesn't cover, the oldest first
abbrev pub lacked_of : List Entry → Vector → List Stamped
lacked_of G v = reverse (missing v (stamped_entries G))
