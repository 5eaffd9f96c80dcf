-- What is written of an operation is read as that operation.
use Rattle.std.proofs.Common.{◌≡◌, ◌≤◌, ℕ, suc, true, false, nat_le, nat_lt, List, [], ◌∷◌, ◌++◌, length, map, Option, Some}
use Rattle.std.proofs.Common.{None, Ok}
use Rattle.std.proofs.Common.{refl, ap, ◌∙◌, arith}
use Rattle.std.specs.Prelude.{codes, pos, negsuc}
use Rattle.std.specs.List.{list_all}
use Rattle.std.proofs.lemmas.Bool.{and_parts, leb-true, lt-ltb, le-ltb}
use Rattle.std.proofs.lemmas.List.{length-append}
use Rattle.ids.specs.Vectors.{IsNamed}
use Rattle.semantics.specs.Ids.{OpId}
use Rattle.semantics.specs.Elements.{Element, Doc, Field, Item, Place, At, HeadOf, Tag, AsMap, AsList, Value, Plain, EmptyMap, EmptyList}
use Rattle.semantics.specs.Elements.{Null, Boolean, Whole, Text, depth}
use Rattle.semantics.specs.Operations.{Mutation, Assign, Insert, Delete, element_of}
use Rattle.semantics.specs.Paths.{Hop, FieldHop, ItemHop, child, down, hops_from_root}
use Rattle.semantics.specs.Stamped.{Stamped}
use Rattle.semantics.specs.Vectors.{AreAbove, IsCanonical, Vector}
use Rattle.semantics.proofs.ElementPaths.{down-hops_from_root}
use Rattle.operation.specs.declared.op.Op.{Op}
use Rattle.operation.specs.Ops.{mutation_of, stamped_of}
use Rattle.serde_json.specs.Data.{Data}
use Rattle.serde_json.specs.View.{items_of}
use Rattle.operation.specs.cursor.Places.{LastKey, DocKey, FieldName, ItemId, HeadKey, depth_of}
use Rattle.operation.specs.value.Forms.{IsWithinLimits, json_of, value_form}
use Rattle.wire.specs.Forms.{and_then, count_parts, phrase_form}
use Rattle.wire.specs.OpIds.{id_form}
use Rattle.wire.specs.Messages.{hello_json, hello_of}
use Rattle.wire.specs.Operations.{entered_json, id_json, key_json, last_from, last_json, mutation_json, operation_json, parts_from}
use Rattle.wire.specs.Operations.{path_json, phrase, root_json}
use Rattle.wire.specs.Places.{Entered, element_at, entered_of, is_list_head, key_form, parts_of, place_below, place_form}
use Rattle.wire.specs.Reading.{mutation_form, operation_form}
use Rattle.wire.specs.Sent.{AreReplicaNumbers, AreSentKeys, AreTypedKeys, CanBeSent, IsSent, IsSentId, IsSentKey, IsSentMutation}
use Rattle.wire.specs.Sent.{IsReplicaNumber, IsSentVector, IsTypedPlace, are_counters, is_counter, key_counted}
use Rattle.wire.specs.Vectors.{pair_json, pairs_above}

-- ---- ids and vectors

pub id_back : (a : OpId) → IsSentId a → id_form (id_json a) ≡ Ok a
id_back a h = rw (h.0, h.1) refl

pairs_back : (p : ℕ) (v : Vector) → IsSentVector p v → pairs_above p (items_of (map pair_json v)) ≡ Ok v
pairs_back p [] h = refl
pairs_back p (a ∷ v) h = rw (h.1.0, h.1.1, lt-ltb p a.replica h.0, pairs_back a.replica v h.2) refl

count_pairs : (v : Vector) → count_parts (items_of (map pair_json v)) ≡ length v
count_pairs [] = refl
count_pairs (a ∷ v) = ap suc (count_pairs v)

few_pairs : (v : Vector) → length v ≤ 256 → nat_lt 256 (count_parts (items_of (map pair_json v))) ≡ false
few_pairs v few = le-ltb 256 (count_parts (items_of (map pair_json v))) (omega (arith, count_pairs v, few))

-- ---- places

-- a key as it is written
abbrev written_key : Hop → LastKey
written_key (FieldHop n) = FieldName n
written_key (ItemHop a) = ItemId a

-- the tag with which the element before a key is entered
abbrev tag_before : Hop → Tag
tag_before (FieldHop n) = AsMap
tag_before (ItemHop a) = AsList

-- the parts of a path from one key on
abbrev path_parts : LastKey → List Hop → List Entered
path_parts before [] = []
path_parts before (k ∷ ks) = record { key = before; tag = tag_before k } ∷ path_parts (written_key k) ks

-- its last key
abbrev path_last : LastKey → List Hop → LastKey
path_last before [] = before
path_last before (k ∷ ks) = path_last (written_key k) ks

key_back : (k : Hop) → IsSentKey k → key_form (key_json k) ≡ Ok (written_key k)
key_back (FieldHop n) h = rw (le-ltb 256 (length n) h) refl
key_back (ItemHop a) h = rw (h.0, h.1) refl

part_back : (d : Data) (before : LastKey) (k : Hop) → key_form d ≡ Ok before
    → and_then entered_of (phrase_form (entered_json d k)) ≡ Ok (record { key = before; tag = tag_before k })
part_back d before (FieldHop n) e = rw e refl
part_back d before (ItemHop a) e = rw e refl

parts_back : (d : Data) (before : LastKey) (ks : List Hop) → key_form d ≡ Ok before → AreSentKeys ks
    → parts_of (items_of (parts_from d ks)) ≡ Ok (path_parts before ks)
parts_back d before [] e h = refl
parts_back d before (k ∷ ks) e h = rw
    (part_back d before k e, parts_back (key_json k) (written_key k) ks (key_back k h.0) h.1) refl

last_back : (d : Data) (before : LastKey) (ks : List Hop) → key_form d ≡ Ok before → AreSentKeys ks
    → key_form (last_from d ks) ≡ Ok (path_last before ks)
last_back d before [] e h = e
last_back d before (k ∷ ks) e h = last_back (key_json k) (written_key k) ks (key_back k h.0) h.1

head_back : (d : Data) (before : LastKey) (ks : List Hop) → key_form d ≡ Ok before → AreSentKeys ks
    → parts_of (items_of (parts_from d ks ++ phrase (codes "l") (last_from d ks ∷ []) ∷ []))
    ≡ Ok (path_parts before ks ++ record { key = path_last before ks; tag = AsList } ∷ [])
head_back d before [] e h = rw e refl
head_back d before (k ∷ ks) e h = rw
    (part_back d before k e, head_back (key_json k) (written_key k) ks (key_back k h.0) h.1) refl

entry_back : (e : Element) (k : Hop) → element_at e (Some (tag_before k)) (written_key k) ≡ Ok (child e k)
entry_back e (FieldHop n) = refl
entry_back e (ItemHop a) = refl

no_head : (t k : Hop) → is_list_head (Some (tag_before t)) (written_key k) ≡ false
no_head (FieldHop n) k = refl
no_head (ItemHop a) (FieldHop m) = refl
no_head (ItemHop a) (ItemHop b) = refl

walk_back : (e f : Element) (t : Option Tag) (before : LastKey) (ks : List Hop) → element_at e t before ≡ Ok f
    → is_list_head t before ≡ false
    → place_below e t (path_parts before ks) (path_last before ks) ≡ Ok (At (down f ks))
walk_back e f t before [] there other = rw (other, there) refl
walk_back e f t before (k ∷ ks) there other =
    rw there (walk_back f (child f k) (Some (tag_before k)) (written_key k) ks (entry_back f k) (no_head k k))

walk_to_head : (e f : Element) (t : Option Tag) (before : LastKey) (ks : List Hop) → element_at e t before ≡ Ok f
    → place_below e t (path_parts before ks ++ record { key = path_last before ks; tag = AsList } ∷ []) HeadKey ≡ Ok (HeadOf (down f ks))
walk_to_head e f t before [] there = rw there refl
walk_to_head e f t before (k ∷ ks) there = rw there (walk_to_head f (child f k) (Some (tag_before k)) (written_key k) ks (entry_back f k))

count_back : (d : Data) (ks : List Hop) → count_parts (items_of (parts_from d ks)) ≡ length ks
count_back d [] = refl
count_back d (k ∷ ks) = ap suc (count_back (key_json k) ks)

count_head : (d x : Data) (ks : List Hop) → count_parts (items_of (parts_from d ks ++ x ∷ [])) ≡ suc (length ks)
count_head d x [] = refl
count_head d x (k ∷ ks) = ap suc (count_head (key_json k) x ks)

length_keys : (e : Element) → length (hops_from_root e) ≡ depth e
length_keys Doc = refl
length_keys (Field e n) = omega (arith, length-append (hops_from_root e) (FieldHop n ∷ []), length_keys e)
length_keys (Item e a) = omega (arith, length-append (hops_from_root e) (ItemHop a ∷ []), length_keys e)

pub place_back : (p : Place) → AreSentKeys (hops_from_root (element_of p)) → depth_of p ≤ 32
    → place_form (path_json p) (last_json p) ≡ Ok p
place_back (At e) h few =
    let ks = hops_from_root e in
    let short : count_parts (items_of (parts_from root_json ks)) ≤ 32 = omega (arith, count_back root_json ks, length_keys e, few) in
    rw (
      le-ltb 32
          (count_parts (items_of
          (parts_from root_json ks))) short,
      parts_back root_json DocKey ks refl h,
      last_back root_json DocKey ks refl h,
    )
    (walk_back Doc Doc None DocKey ks refl refl ∙ ap (λ (d : Element). Ok (At d)) (down-hops_from_root e))
place_back (HeadOf e) h few =
    let ks = hops_from_root e in
    let x = phrase (codes "l") (last_from root_json ks ∷ []) in
    let short : count_parts (items_of (parts_from root_json ks ++ x ∷ [])) ≤ 32 = omega
    (arith, count_head root_json x ks, length_keys e, few) in
    rw (le-ltb 32 (count_parts (items_of (parts_from root_json ks ++ x ∷ []))) short, head_back root_json DocKey ks refl h)
    (walk_to_head Doc Doc None DocKey ks refl ∙ ap (λ (d : Element). Ok (HeadOf d)) (down-hops_from_root e))

-- ---- mutations

pub value_back : (v : Value) → IsWithinLimits v → value_form (json_of v) ≡ Ok v
value_back (Plain Null) h = refl
value_back (Plain (Boolean b)) h = refl
value_back (Plain (Whole (pos n))) h = rw (lt-ltb n 9223372036854775808 (omega (arith, h))) refl
value_back (Plain (Whole (negsuc n))) h = refl
value_back (Plain (Text s)) h = rw (le-ltb 4096 (length s) h) refl
value_back EmptyMap h = refl
value_back EmptyList h = refl

pub mutation_back : (m : Mutation) → IsSentMutation m → mutation_form (mutation_json m) ≡ Ok m
mutation_back (Assign v) h = rw (value_back v h) refl
mutation_back (Insert v) h = rw (value_back v h) refl
mutation_back Delete h = refl

-- ---- operations

pub operation_back : (s : Stamped) → IsSent s → operation_form (operation_json s) ≡ Ok s
operation_back s h =
    rw (
      id_back s.id h.id,
      few_pairs s.vector h.few_pairs,
      pairs_back 0 s.vector h.vector,
      place_back s.place h.keys h.few,
      mutation_back s.mutation
          h.mutation,
    ) refl

pub hello_back : (v : Vector) → IsSentVector 0 v → length v ≤ 256
    → and_then hello_of (phrase_form (hello_json v)) ≡ Ok v
hello_back v h few = rw (few_pairs v few, pairs_back 0 v h) refl

-- ---- what types guarantee, besides what a caller answers for

sent_vector : (p : ℕ) (v : Vector) → IsCanonical v → AreAbove p v → AreReplicaNumbers v → are_counters v ≡ true → IsSentVector p v
sent_vector p [] rising above typed counters = tt
sent_vector p (a ∷ v) rising above typed counters =
    let n = and_parts (is_counter a.counter) (are_counters v) counters in
    (above.0, (n.0, typed.0), sent_vector a.replica v rising.2 rising.1 typed.1 n.1)

pub above_zero : (v : Vector) → AreReplicaNumbers v → AreAbove 0 v
above_zero [] h = tt
above_zero (a ∷ v) h =
    let some = and_parts (nat_le 1 a.replica) (nat_le a.replica 4294967295) h.0 in
    let above : 1 ≤ a.replica = leb-true 1 a.replica some.0 in (omega (arith, above), above_zero v h.1)

-- a vector, if its counters are within the limits of the wire
pub sent_named : (v : Vector) → IsCanonical v → AreReplicaNumbers v → are_counters v ≡ true → IsSentVector 0 v
sent_named v canonical typed counters = sent_vector 0 v canonical (above_zero v typed) typed counters

pub sent_keys : (ks : List Hop) → AreTypedKeys ks → list_all key_counted ks ≡ true → AreSentKeys ks
sent_keys [] typed counters = tt
sent_keys (FieldHop n ∷ ks) typed counters = (typed.0, sent_keys ks typed.1 counters)
sent_keys (ItemHop a ∷ ks) typed counters =
    let n = and_parts (is_counter a.counter) (list_all key_counted ks) counters in ((n.0, typed.0), sent_keys ks typed.1 n.1)

-- what its types guarantee, and what a caller answers for, is all that a line needs
pub typed_sent : (o : Op) → IsNamed o.deps → IsReplicaNumber o.id.replica → AreReplicaNumbers o.deps → IsTypedPlace o.place
    → IsSentMutation (mutation_of o.mutation) → CanBeSent (stamped_of o) → IsSent (stamped_of o)
typed_sent o named own_typed vector_typed place_typed within sent =
    record {
      id = (sent.id, own_typed);
      vector = sent_named o.deps named.canonical vector_typed sent.vector;
      few_pairs = named.few;
      keys = sent_keys (hops_from_root (element_of o.place)) place_typed.keys sent.items;
      few = place_typed.few;
      mutation = within;
    }
