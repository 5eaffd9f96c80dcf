-- What a session replays of a journal.
use Rattle.std.specs.Prelude.{◌≡◌, ℕ, Bool, true, false, List, [], ◌∷◌, length, map, take}
use Rattle.ids.specs.declared.refusal.Refusal.TheVariants.{NoMemory}
use Rattle.semantics.specs.Entries.{Entry}
use Rattle.semantics.specs.Journals.{Recorded, entries_from, recorded}
use Rattle.semantics.specs.WorldHistory.{BeginsWith}
use Rattle.records.specs.declared.replaying.Unfit.{Unfit}
use Rattle.records.specs.declared.replaying.Unfit.TheVariants.{Refused, NotAlone}
use Rattle.records.specs.wire.Lines.{cut}

-- whether the entry of a line that wasn't taken may be in the history all the same
abbrev pub may_stand : Unfit → Bool
may_stand (Refused NoMemory) = true
may_stand NotAlone = true
may_stand _ = false

-- G is F with one entry more, of which this is recorded
abbrev pub HasRecord : List Entry → Recorded → List Entry → Type 0
HasRecord F x G = BeginsWith G F × (map recorded (entries_from (length F) G) ≡ x ∷ [])

-- this many bytes are the first n lines of a text, each with its line feed
abbrev pub AreFirstLines : List ℕ → (n bytes : ℕ) → Type 0
AreFirstLines text n bytes = cut (take bytes text) ≡ record { lines = take n (cut text).lines; tail = [] }
