-- The line of an operation or of a vector that can be sent is read as that operation or vector, if its texts are UTF-8.
use Rattle.std.proofs.Common.{◌≡◌, ◌≤◌, ◌<◌, ◌^◌, ℕ, IsUtf8, nat_le, List, [], ◌∷◌, ◌++◌, length, map, Ok, true, ap, ◌∙◌, arith}
use Rattle.std.specs.Prelude.{codes, pos, negsuc}
use Rattle.std.proofs.lemmas.Bool.{and_parts, leb-true}
use Rattle.ids.specs.Configurations.{is_from_one_to}
use Rattle.semantics.specs.Elements.{Value, Plain, EmptyMap, EmptyList, Null, Boolean, Whole, Text, Place, At, HeadOf}
use Rattle.semantics.specs.Ids.{OpId}
use Rattle.semantics.specs.Operations.{Mutation, Assign, Insert, Delete, element_of}
use Rattle.semantics.specs.Paths.{Hop, FieldHop, ItemHop, hops_from_root}
use Rattle.semantics.specs.Stamped.{Stamped}
use Rattle.semantics.specs.Vectors.{Vector}
use Rattle.serde_json.specs.Data.{Data, depth}
use Rattle.serde_json.specs.View.{items_of}
use Rattle.operation.specs.value.Forms.{IsWithinLimits, json_of}
use Rattle.wire.specs.Forms.{and_then, phrase_form}
use Rattle.wire.specs.Messages.{hello_form, hello_json, hello_of, op_line, vector_line}
use Rattle.wire.specs.Operations.{entered_json, id_json, key_json, last_from, last_json, mutation_json, operation_json, parts_from}
use Rattle.wire.specs.Operations.{parts_of, phrase, root_json}
use Rattle.wire.specs.Reading.{op_form, operation_form}
use Rattle.wire.specs.Sent.{AreSentKeys, IsSent, IsSentId, IsSentKey, IsSentMutation, IsSentVector}
use Rattle.wire.specs.Vectors.{pair_json}
use Rattle.wire.proofs.JsonTexts.{json_form-read}
use Rattle.wire.proofs.ReadBack.{hello_back, operation_back}
use Rattle.wire.proofs.ShallowForms.{depth-hello_json, depth-operation_json}
use Rattle.wire.proofs.WholeTexts.{HasWhole, ItemsHaveWhole, read-compact_text}

limited : (limit n : ℕ) → limit < 2 ^ 64 → is_from_one_to limit n ≡ true → n < 2 ^ 64
limited limit n l t = let p : (nat_le 1 n ≡ true) × (nat_le n limit ≡ true) = and_parts _ _ t in omega (arith, l, leb-true n limit p.1)

pub counter : (a : OpId) → IsSentId a → a.counter < 2 ^ 64
counter a h = limited 4611686018427387904 a.counter (omega arith) h.0

pub replica : (a : OpId) → IsSentId a → a.replica < 2 ^ 64
replica a h = limited 4294967295 a.replica (omega arith) h.1

pairs : (p : ℕ) (v : Vector) → IsSentVector p v → ItemsHaveWhole (items_of (map pair_json v))
pairs p [] h = tt
pairs p (a ∷ v) h = ((replica a h.1, (counter a h.1, tt)), pairs a.replica v h.2)

key : (k : Hop) → IsSentKey k → HasWhole (key_json k)
key (FieldHop n) h = tt
key (ItemHop a) h = (counter a h, (replica a h, tt))

part : (before : Data) (k : Hop) → HasWhole before → HasWhole (entered_json before k)
part before (FieldHop n) h = (tt, (h, tt))
part before (ItemHop a) h = (tt, (h, tt))

parts : (before : Data) (ks : List Hop) → HasWhole before → AreSentKeys ks
    → ItemsHaveWhole (items_of (parts_from before ks))
parts before [] h sent = tt
parts before (k ∷ ks) h sent = (part before k h, parts (key_json k) ks (key k sent.0) sent.1)

last : (before : Data) (ks : List Hop) → HasWhole before → AreSentKeys ks → HasWhole (last_from before ks)
last before [] h sent = h
last before (k ∷ ks) h sent = last (key_json k) ks (key k sent.0) sent.1

one_more : (ds : List Data) (d : Data) → ItemsHaveWhole (items_of ds) → HasWhole d → ItemsHaveWhole (items_of (ds ++ d ∷ []))
one_more [] d h k = (k, tt)
one_more (x ∷ ds) d h k = (h.0, one_more ds d h.1 k)

root : HasWhole root_json
root = omega arith

pub place : (p : Place) → AreSentKeys (hops_from_root (element_of p)) → ItemsHaveWhole (items_of (parts_of p))
place (At e) h = parts root_json (hops_from_root e) root h
place (HeadOf l) h =
    one_more (parts_from root_json (hops_from_root l)) (phrase (codes "l") (last_from root_json (hops_from_root l) ∷ []))
    (parts root_json (hops_from_root l) root h)
    (tt, (last root_json (hops_from_root l) root h, tt))

pub last_key : (p : Place) → AreSentKeys (hops_from_root (element_of p)) → HasWhole (last_json p)
last_key (At e) h = last root_json (hops_from_root e) root h
last_key (HeadOf l) h = omega arith

pub value : (v : Value) → IsWithinLimits v → HasWhole (json_of v)
value (Plain Null) h = tt
value (Plain (Boolean b)) h = tt
value (Plain (Whole (pos n))) h = omega (arith, h)
value (Plain (Whole (negsuc n))) h = omega (arith, h)
value (Plain (Text s)) h = tt
value EmptyMap h = tt
value EmptyList h = tt

pub mutation : (m : Mutation) → IsSentMutation m → HasWhole (mutation_json m)
mutation (Assign v) h = (tt, (value v h, tt))
mutation (Insert v) h = (tt, (value v h, tt))
mutation Delete h = (tt, tt)

pub operation : (s : Stamped) → IsSent s → HasWhole (operation_json s)
operation s h =
    let id : HasWhole (id_json s.id) = (counter s.id h.id, (replica s.id h.id, tt)) in (
      tt,
      (
        id,
        (
          pairs 0 s.vector h.vector,
          (place s.place h.keys, (last_key s.place h.keys, (mutation s.mutation h.mutation, tt))),
        ),
      ),
    )

pub op_form-op_line : (s : Stamped) → IsSent s → IsUtf8 (op_line s) → op_form (op_line s) ≡ Ok s
op_form-op_line s sent utf8 =
    let d = operation_json s in
    let shallow : depth (operation_json s) ≤ 127 = omega (arith, depth-operation_json s) in
    ap (and_then operation_form) (json_form-read (op_line s) d utf8 (read-compact_text d (operation s sent) shallow))
    ∙ operation_back s sent

pub hello_form-vector_line : (v : Vector) → IsSentVector 0 v → length v ≤ 256 → IsUtf8 (vector_line v)
    → hello_form (vector_line v) ≡ Ok v
hello_form-vector_line v sent few utf8 =
    let d = hello_json v in
    let whole : HasWhole (hello_json v) = (tt, (pairs 0 v sent, tt)) in
    let shallow : depth (hello_json v) ≤ 127 = omega (arith, depth-hello_json v) in
    ap (λ r. and_then hello_of (and_then phrase_form r)) (json_form-read (vector_line v) d utf8 (read-compact_text d whole shallow))
    ∙ hello_back v sent few
