-- What a session does with the operations that a peer sent.
use Rattle.std.specs.Prelude.{◌≡◌, ◌⊎◌, ℕ, ◌+◌, suc, Bool, true, false, List, [], ◌∷◌, length, Option, Some, None}
use Rattle.ids.specs.declared.refusal.Refusal.{Refusal}
use Rattle.ids.specs.declared.refusal.Refusal.TheVariants.{NoMemory}
use Rattle.semantics.specs.Stamped.{Stamped}
use Rattle.semantics.specs.Replica.{Replica}
use Rattle.semantics.specs.Delivery.{Delivered, NotKept, answer_to, deliver}
use Rattle.semantics.specs.Drain.{counted, drain}
use Rattle.records.specs.wire.Bundles.{Readable}
use Rattle.session.specs.declared.session.receiving.Refused.{Refused}

-- ---- the replica

-- the replica after a drain
abbrev pub settled : Replica → Replica
settled r = counted (drain r)

-- the replica after these were delivered, each after a drain; after the last one there is no drain yet
abbrev pub delivered : Replica → List Stamped → Replica
delivered r [] = r
delivered r (s ∷ ss) = delivered (deliver (settled r) s) ss

-- whether memory ran out
abbrev pub is_short : Option (ℕ × Refusal) → Bool
is_short (Some (line, NoMemory)) = true
is_short _ = false

-- ---- the refused ones

-- why an operation is neither kept nor known, if it isn't
abbrev pub refusal_of : Delivered → Option Refusal
refusal_of (NotKept why) = Some why
refusal_of _ = None

-- why each of these operations is refused, if it is
abbrev pub refusals : Replica → List Stamped → List (Option Refusal)
refusals r [] = []
refusals r (s ∷ ss) = refusal_of (answer_to (settled r) s) ∷ refusals (deliver (settled r) s) ss

-- the refused ones with their lines, which are counted on from n
abbrev pub refused_lines : ℕ → List (Option Refusal) → List (ℕ × Refusal)
refused_lines n [] = []
refused_lines n (None ∷ xs) = refused_lines (suc n) xs
refused_lines n (Some why ∷ xs) = (n, why) ∷ refused_lines (suc n) xs

-- how many there are, and the first of them
abbrev pub summary : List (ℕ × Refusal) → Option Refused
summary [] = None
summary (x ∷ xs) = Some (record { count = suc (length xs); first_line = x.0; why = x.1 })

-- the summary with one more, if this line has one
abbrev pub with_refusal : Option Refused → ℕ → Option Refusal → Option Refused
with_refusal refused line None = refused
with_refusal None line (Some why) = Some (record { count = 1; first_line = line; why = why })
with_refusal (Some before) line (Some why) = Some (record before { count = before.count + 1 })

-- ---- the stop

-- why the receipt stopped after n lines: memory ran out, or the next line is the bad one
abbrev pub StopsBehind : Readable → ℕ → Refusal → Type 0
StopsBehind r n why = (why ≡ NoMemory) ⊎ ((n ≡ length r.operations) × (r.stopped ≡ Some why))

-- nothing follows n lines
abbrev pub EndsBehind : Readable → ℕ → Type 0
EndsBehind r n = (n ≡ length r.operations) × (r.stopped ≡ None)
