-- What a VECTOR is in JSON, in both directions.
use Rattle.std.specs.Prelude.{ℕ, nat_lt, if◌then◌else◌, [], ◌∷◌, map, Result, Ok, Err}
use Rattle.ids.specs.declared.refusal.Refusal.{Refusal}
use Rattle.ids.specs.declared.refusal.Refusal.TheVariants.{BadLine}
use Rattle.semantics.specs.Ids.{OpId, id_at}
use Rattle.ids.specs.Vectors.{most_named}
use Rattle.semantics.specs.Vectors.{Vector}
use Rattle.serde_json.specs.Data.{Data, Items, no_items, item, number, array, unsigned}
use Rattle.serde_json.specs.View.{items_of}
use Rattle.wire.specs.Forms.{and_then, count_parts, list_form}
use Rattle.wire.specs.OpIds.{counter_form, replica_form}

-- ---- reading

-- a list of two: the number of a replica, and a counter
abbrev pub pair_of : Items → Result OpId Refusal
pair_of (item replica (item counter no_items)) =
    and_then (λ p. and_then (λ c. Ok (id_at c p)) (counter_form counter)) (replica_form replica)
pair_of _ = Err BadLine

-- the id that a pair names
abbrev pub pair_form : Data → Result OpId Refusal
pair_form d = and_then pair_of (list_form d)

-- the id, if its replica is above p
abbrev pub next_of : ℕ → OpId → Result OpId Refusal
next_of p a = if nat_lt p a.replica then Ok a else Err BadLine

-- the pairs, if the replica of each is above p and those before it
abbrev pub pairs_above : ℕ → Items → Result Vector Refusal
pairs_above p no_items = Ok []
pairs_above p (item pair pairs) =
    and_then (λ a. and_then (λ v. Ok (a ∷ v)) (pairs_above a.replica pairs)) (and_then (next_of p) (pair_form pair))

-- at most 256 pairs, in ascending order of replica
abbrev pub pairs_of : Items → Result Vector Refusal
pairs_of pairs = if nat_lt most_named (count_parts pairs) then Err BadLine else pairs_above 0 pairs

-- a list of such pairs
abbrev pub vector_form : Data → Result Vector Refusal
vector_form d = and_then pairs_of (list_form d)

-- ---- writing

-- a number that isn't negative
abbrev pub count : ℕ → Data
count n = number (unsigned n)

-- the pair of an id
abbrev pub pair_json : OpId → Data
pair_json a = array (items_of (count a.replica ∷ count a.counter ∷ []))

-- a pair for each id of the vector
abbrev pub vector_json : Vector → Data
vector_json v = array (items_of (map pair_json v))
