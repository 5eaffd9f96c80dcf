-- How deep the JSON of an operation nests.
use Rattle.std.proofs.Common.{◌≤◌, ℕ, List, [], ◌∷◌, ◌++◌, map, arith}
use Rattle.std.specs.Prelude.{pos, negsuc}
use Rattle.semantics.specs.Elements.{Null, Boolean, Whole, Text, Value, Plain, EmptyMap, EmptyList, Place, At, HeadOf}
use Rattle.semantics.specs.Operations.{Mutation, Assign, Insert, Delete}
use Rattle.semantics.specs.Paths.{Hop, FieldHop, ItemHop, hops_from_root}
use Rattle.semantics.specs.Stamped.{Stamped}
use Rattle.semantics.specs.Vectors.{Vector}
use Rattle.serde_json.specs.Data.{Data, depth, items_depth}
use Rattle.serde_json.specs.View.{items_of}
use Rattle.operation.specs.value.Forms.{json_of}
use Rattle.wire.specs.Deltas.{delta}
use Rattle.wire.specs.Messages.{hello_json}
use Rattle.wire.specs.Operations.{entered_json, key_json, last_from, last_json, mutation_json, operation_json, parts_from, parts_of}
use Rattle.wire.specs.Operations.{root_json}
use Rattle.wire.specs.Profiles.{op2_json}
use Rattle.wire.specs.Vectors.{pair_json}

pub depth-json_of : (v : Value) → depth (json_of v) ≤ 1
depth-json_of (Plain Null) = omega arith
depth-json_of (Plain (Boolean b)) = omega arith
depth-json_of (Plain (Whole (pos n))) = omega arith
depth-json_of (Plain (Whole (negsuc n))) = omega arith
depth-json_of (Plain (Text s)) = omega arith
depth-json_of EmptyMap = omega arith
depth-json_of EmptyList = omega arith

depth-key_json : (k : Hop) → depth (key_json k) ≤ 1
depth-key_json (FieldHop n) = omega arith
depth-key_json (ItemHop a) = omega arith

depth-entered_json : (before : Data) (k : Hop) → depth before ≤ 1 → depth (entered_json before k) ≤ 2
depth-entered_json before (FieldHop n) h = omega (arith, h)
depth-entered_json before (ItemHop a) h = omega (arith, h)

depth-parts_from : (before : Data) (ks : List Hop) → depth before ≤ 1 → items_depth (items_of (parts_from before ks)) ≤ 2
depth-parts_from before [] h = omega arith
depth-parts_from before (k ∷ ks) h = omega (arith, depth-entered_json before k h, depth-parts_from (key_json k) ks (depth-key_json k))

depth-last_from : (before : Data) (ks : List Hop) → depth before ≤ 1 → depth (last_from before ks) ≤ 1
depth-last_from before [] h = h
depth-last_from before (k ∷ ks) h = depth-last_from (key_json k) ks (depth-key_json k)

depth-append : (ds : List Data) (d : Data) (n : ℕ) → items_depth (items_of ds) ≤ n → depth d ≤ n → items_depth (items_of (ds ++ d ∷ [])) ≤ n
depth-append [] d n h l = omega (arith, l)
depth-append (x ∷ ds) d n h l = omega (arith, h, depth-append ds d n (omega (arith, h)) l)

depth-parts_of : (p : Place) → items_depth (items_of (parts_of p)) ≤ 2
depth-parts_of (At e) = depth-parts_from root_json (hops_from_root e) (omega arith)
depth-parts_of (HeadOf l) =
    depth-append (parts_from root_json (hops_from_root l)) _ 2 (depth-parts_from root_json (hops_from_root l) (omega arith))
    (omega (arith, depth-last_from root_json (hops_from_root l) (omega arith)))

depth-last_json : (p : Place) → depth (last_json p) ≤ 1
depth-last_json (At e) = depth-last_from root_json (hops_from_root e) (omega arith)
depth-last_json (HeadOf l) = omega arith

depth-pairs : (v : Vector) → items_depth (items_of (map pair_json v)) ≤ 1
depth-pairs [] = omega arith
depth-pairs (a ∷ v) = omega (arith, depth-pairs v)

depth-mutation_json : (m : Mutation) → depth (mutation_json m) ≤ 2
depth-mutation_json (Assign v) = omega (arith, depth-json_of v)
depth-mutation_json (Insert v) = omega (arith, depth-json_of v)
depth-mutation_json Delete = omega arith

-- the lists of a line, of its path, of a key in it, and of an id there
pub depth-operation_json : (s : Stamped) → depth (operation_json s) ≤ 4
depth-operation_json s = omega
    (arith, depth-pairs s.vector, depth-parts_of s.place, depth-last_json s.place, depth-mutation_json s.mutation)

pub depth-op2_json : (base : Vector) (s : Stamped) → depth (op2_json base s) ≤ 4
depth-op2_json base s = omega
    (arith, depth-pairs (delta base s.vector), depth-parts_of s.place, depth-last_json s.place, depth-mutation_json s.mutation)

pub depth-hello_json : (v : Vector) → depth (hello_json v) ≤ 4
depth-hello_json v = omega (arith, depth-pairs v)
