-- The ids of operations, as JSON.
use Rattle.std.specs.Prelude.{ℕ, Result, Ok, Err, if◌then◌else◌}
use Rattle.ids.specs.Configurations.{is_from_one_to}
use Rattle.ids.specs.declared.refusal.Refusal.{Refusal}
use Rattle.ids.specs.declared.refusal.Refusal.TheVariants.{BadLine}
use Rattle.semantics.specs.Limits.{most_counter, most_replica}
use Rattle.semantics.specs.Ids.{OpId, id_at}
use Rattle.serde_json.specs.Data.{Data, Items, no_items, item}
use Rattle.wire.specs.Forms.{and_then, list_form, number_form}

-- a number from 1 to the limit
abbrev pub limited_form : ℕ → Data → Result ℕ Refusal
limited_form limit d = and_then (λ n. if is_from_one_to limit n then Ok n else Err BadLine) (number_form d)

-- the counter of an operation
abbrev pub counter_form : Data → Result ℕ Refusal
counter_form d = limited_form most_counter d

-- the number of a replica
abbrev pub replica_form : Data → Result ℕ Refusal
replica_form d = limited_form most_replica d

-- a list of two: a counter, and the number of a replica
abbrev pub id_of : Items → Result OpId Refusal
id_of (item counter (item replica no_items)) = and_then (λ c. and_then (λ p. Ok (id_at c p)) (replica_form replica)) (counter_form counter)
id_of _ = Err BadLine

-- the id of an operation
abbrev pub id_form : Data → Result OpId Refusal
id_form d = and_then id_of (list_form d)
