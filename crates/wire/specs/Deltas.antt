-- What changed from one vector, the base, to another: a pair for each replica whose counter differs, in both directions of JSON.
use Rattle.std.specs.Prelude.{ℕ, ⊤, ◌≤◌, ◌==◌, ◌&&◌, not, nat_le, nat_lt, cond, if◌then◌else◌, [], ◌∷◌, length, Result, Ok, Err}
use Rattle.ids.specs.declared.refusal.Refusal.{Refusal}
use Rattle.ids.specs.declared.refusal.Refusal.TheVariants.{BadLine}
use Rattle.ids.specs.Vectors.{most_named}
use Rattle.semantics.specs.Ids.{OpId, id_at}
use Rattle.semantics.specs.Limits.{most_counter}
use Rattle.semantics.specs.Vectors.{AreAbove, Vector, at}
use Rattle.serde_json.specs.Data.{Data, Items, no_items, item}
use Rattle.wire.specs.Forms.{and_then, list_form, number_form}
use Rattle.wire.specs.OpIds.{replica_form}

-- ---- differences

-- the differences d from a base, once the base has the pair b too: b's replica is in them only if its counter differs, with 0 if it isn't
-- named
abbrev pub beside : OpId → Vector → Vector
beside b [] = id_at 0 b.replica ∷ []
beside b (a ∷ d) =
    cond (nat_lt a.replica b.replica) (a ∷ beside b d)
    (cond (a.replica == b.replica) (cond (a.counter == b.counter) d (a ∷ d)) (id_at 0 b.replica ∷ a ∷ d))

-- the differences of v from a base: each pair of the base that v has too is left out
abbrev pub delta : Vector → Vector → Vector
delta [] v = v
delta (b ∷ base) v = beside b (delta base v)

-- a's replica with its counter in front of the vector; with the counter 0 it isn't named
abbrev pub named_before : OpId → Vector → Vector
named_before a v = if a.counter == 0 then v else a ∷ v

-- the vector in which a's replica has a's counter
abbrev pub with_counter : OpId → Vector → Vector
with_counter a [] = named_before a []
with_counter a (b ∷ v) =
    cond (nat_lt b.replica a.replica) (b ∷ with_counter a v)
    (cond (a.replica == b.replica) (named_before a v) (named_before a (b ∷ v)))

-- the base in which the replica of each of these pairs has its counter
abbrev pub changed : Vector → Vector → Vector
changed base [] = base
changed base (a ∷ d) = with_counter a (changed base d)

-- replicas ascend, whatever the counters
abbrev pub IsRising : Vector → Type 0
IsRising [] = ⊤
IsRising (a ∷ d) = AreAbove a.replica d × IsRising d

-- the first replica is p or above
abbrev pub BeginsFrom : ℕ → Vector → Type 0
BeginsFrom p [] = ⊤
BeginsFrom p (a ∷ v) = p ≤ a.replica

-- the pairs after the first one, if that is of the replica p; else all
abbrev pub behind : ℕ → Vector → Vector
behind p [] = []
behind p (a ∷ v) = if a.replica == p then v else a ∷ v

-- ---- reading

-- a counter, or 0
abbrev pub change_counter_form : Data → Result ℕ Refusal
change_counter_form d = and_then (λ c. if nat_le c most_counter then Ok c else Err BadLine) (number_form d)

-- a list of two: the number of a replica, and the counter that it has now
abbrev pub change_of : Items → Result OpId Refusal
change_of (item replica (item counter no_items)) =
    and_then (λ p. and_then (λ c. Ok (id_at c p)) (change_counter_form counter)) (replica_form replica)
change_of _ = Err BadLine

-- the pair of a replica and the counter that it has now
abbrev pub change_form : Data → Result OpId Refusal
change_form d = and_then change_of (list_form d)

-- the pair, if its replica is above p and its counter differs from the base's
abbrev pub next_change_of : Vector → ℕ → OpId → Result OpId Refusal
next_change_of base p a = if nat_lt p a.replica && not (at base a.replica == a.counter) then Ok a else Err BadLine

-- the pairs, if the replica of each is above p and those before it, and its counter differs from the base's
abbrev pub changes_above : Vector → ℕ → Items → Result Vector Refusal
changes_above base p no_items = Ok []
changes_above base p (item pair pairs) =
    and_then (λ a. and_then (λ d. Ok (a ∷ d)) (changes_above base a.replica pairs)) (and_then (next_change_of base p) (change_form pair))

-- the vector, if it has at most 256 pairs
abbrev pub few_of : Vector → Result Vector Refusal
few_of v = if nat_lt most_named (length v) then Err BadLine else Ok v

-- the vector that a list of such pairs makes of the base
abbrev pub delta_form : Vector → Data → Result Vector Refusal
delta_form base d = and_then (λ changes. few_of (changed base changes)) (and_then (changes_above base 0) (list_form d))
