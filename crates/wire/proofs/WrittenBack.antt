-- What is read as an operation or a vector is the JSON that writing it gives.
use Rattle.std.proofs.Common.{◌≡◌, ◌⊎◌, ◌^◌, inl, inr, ◌==◌, ℕ, nat_lt, length, Bool, true, false, cond, List, [], ◌∷◌, ◌++◌, map, Some}
use Rattle.std.proofs.Common.{None, Result, Ok, Err, refl, sym, ap, ◌∙◌, subst}
use Rattle.std.specs.Prelude.{codes, pos, negsuc, option_map}
use Rattle.std.specs.Option.{ok_or}
use Rattle.std.proofs.lemmas.Bool.{eqb-true}
use Rattle.std.specs.Str.{bytes_eq}
use Rattle.std.proofs.lemmas.Slice.Eq.{bytes_eq-Decides}
use Rattle.ids.specs.declared.refusal.Refusal.{Refusal}
use Rattle.ids.specs.declared.refusal.Refusal.TheVariants.{BadLine, KeyTooLong, NotWhole, TextTooLong, TooDeep}
use Rattle.ids.specs.Configurations.{is_from_one_to}
use Rattle.semantics.specs.Ids.{OpId, id_at}
use Rattle.semantics.specs.Elements.{Element, Doc, Field, Item, Place, At, HeadOf, Tag, AsMap, AsList, AsRegister, Value, Plain, EmptyMap}
use Rattle.semantics.specs.Elements.{EmptyList, Null, Boolean, Whole, Text}
use Rattle.semantics.specs.Operations.{Mutation, Assign, Insert, Delete}
use Rattle.semantics.specs.Paths.{Hop, FieldHop, ItemHop, down, hops_from_root}
use Rattle.semantics.specs.Stamped.{Stamped}
use Rattle.semantics.specs.Vectors.{Vector}
use Rattle.serde_json.specs.Data.{Data, null, boolean, number, string, array, object, unsigned, negative, float, Items, no_items, item}
use Rattle.serde_json.specs.Data.{no_members, member}
use Rattle.serde_json.specs.View.{items_of}
use Rattle.operation.specs.cursor.Places.{LastKey, DocKey, FieldName, ItemId, HeadKey}
use Rattle.operation.proofs.cursor.RootPaths.{hops_from_root-down}
use Rattle.operation.specs.value.Forms.{json_of, value_form}
use Rattle.wire.specs.Forms.{and_then, count_parts, list_form, number_form, phrase_form, phrase_of, text_form, with_parts}
use Rattle.wire.specs.OpIds.{counter_form, id_form, id_of, limited_form, replica_form}
use Rattle.wire.specs.Messages.{hello_json, hello_of, only_vector}
use Rattle.wire.specs.Operations.{head_json, id_json, last_from, last_json, mutation_json, operation_json, parts_from, path_json, phrase}
use Rattle.wire.specs.Operations.{root_json}
use Rattle.wire.specs.Places.{Entered, element_at, entered_of, key_form, numbered_key, only_key, path_form, path_of, parts_of}
use Rattle.wire.specs.Places.{place_at_last, place_below, place_form, tag_form}
use Rattle.wire.specs.Reading.{Fields, fields_form, fields_of, fields_with, five_parts, mutation_form, mutation_of, nothing_more}
use Rattle.wire.specs.Reading.{only_value}
use Rattle.wire.specs.Reading.{operation_form, parts_after}
use Rattle.wire.specs.Vectors.{count, next_of, pair_form, pair_json, pair_of, pairs_above, vector_form, vector_json, pairs_of}
use Rattle.wire.proofs.NormalNumbers.{AreNormal, IsNormal}

-- ---- what an answer was made of

pub same_ok : {A : Type 0} (x y : A) → ◌≡◌ {A = Result A Refusal} (Ok x) (Ok y) → x ≡ y
same_ok x y h = cc

pub made_of : {A B : Type 0} (f : A → Result B Refusal) (r : Result A Refusal) (y : B) → and_then f r ≡ Ok y
    → (x : A) × (r ≡ Ok x) × (f x ≡ Ok y)
made_of f (Ok x) y h = (x, refl, h)
made_of f (Err why) y h = absurd (cc)

-- ---- parts of a line

pub list_in : (d : Data) (xs : Items) → list_form d ≡ Ok xs → d ≡ array xs
list_in (array ds) xs h = ap array (same_ok ds xs h)
list_in null xs h = absurd (cc)
list_in (boolean b) xs h = absurd (cc)
list_in (number n) xs h = absurd (cc)
list_in (string s) xs h = absurd (cc)
list_in (object ms) xs h = absurd (cc)

pub number_in : (d : Data) (n : ℕ) → number_form d ≡ Ok n → d ≡ count n
number_in (number (unsigned m)) n h = ap (λ k. number (unsigned k)) (same_ok m n h)
number_in (number (negative z)) n h = absurd (cc)
number_in (number (float x)) n h = absurd (cc)
number_in null n h = absurd (cc)
number_in (boolean b) n h = absurd (cc)
number_in (string s) n h = absurd (cc)
number_in (array ds) n h = absurd (cc)
number_in (object ms) n h = absurd (cc)

pub text_in : (d : Data) (s : List ℕ) → text_form d ≡ Ok s → d ≡ string s
text_in (string t) s h = ap string (same_ok t s h)
text_in null s h = absurd (cc)
text_in (boolean b) s h = absurd (cc)
text_in (number n) s h = absurd (cc)
text_in (array ds) s h = absurd (cc)
text_in (object ms) s h = absurd (cc)

pub phrase_in : (d : Data) (p : List ℕ × Items) → phrase_form d ≡ Ok p → d ≡ array (item (string p.0) p.1)
phrase_in d p h = let xs = made_of phrase_of (list_form d) p h in list_in d xs.0 xs.1 ∙ ap array (parts xs.0 xs.2)
  where
    parts : (xs : Items) → phrase_of xs ≡ Ok p → xs ≡ item (string p.0) p.1
    parts no_items h = absurd (cc)
    parts (item first rest) h =
        let word = made_of (with_parts rest) (text_form first) p h in
        let same : (word.0, rest) ≡ p = same_ok (word.0, rest) p word.2 in
        ap (λ d. item d rest) (text_in first word.0 word.1) ∙ ap (λ (q : List ℕ × Items). item (string q.0) q.1) same

pub word_is : (word want : List ℕ) → bytes_eq word want ≡ true → word ≡ want
word_is word want h = (bytes_eq-Decides word want).0 h

pub limited_in : (limit : ℕ) (d : Data) (n : ℕ) → limited_form limit d ≡ Ok n → d ≡ count n
limited_in limit d n h =
    let m = made_of (λ k. cond (is_from_one_to limit k) (Ok k) (Err BadLine)) (number_form d) n h in
    number_in d m.0 m.1 ∙ ap count (within (is_from_one_to limit m.0) m.0 m.2)
  where
    within : (t : Bool) (m : ℕ) → cond t (Ok m) (Err BadLine) ≡ Ok n → m ≡ n
    within true m e = same_ok m n e
    within false m e = absurd (cc)

-- ---- ids and vectors

id_in : (xs : Items) (a : OpId) → id_of xs ≡ Ok a → array xs ≡ id_json a
id_in no_items a h = absurd (cc)
id_in (item c no_items) a h = absurd (cc)
id_in (item c (item r (item x xs))) a h = absurd (cc)
id_in (item c (item r no_items)) a h =
    let n = made_of (λ n. and_then (λ p. Ok (id_at n p)) (replica_form r)) (counter_form c) a h in
    let p = made_of (λ p. Ok (id_at n.0 p)) (replica_form r) a n.2 in
    (λ i. array (item (limited_in 4611686018427387904 c n.0 n.1 i) (item (limited_in 4294967295 r p.0 p.1 i) no_items)))
    ∙ ap id_json (same_ok (id_at n.0 p.0) a p.2)

pub id_form_in : (d : Data) (a : OpId) → id_form d ≡ Ok a → d ≡ id_json a
id_form_in d a h = let xs = made_of id_of (list_form d) a h in list_in d xs.0 xs.1 ∙ id_in xs.0 a xs.2

pair_in : (d : Data) (a : OpId) → pair_form d ≡ Ok a → d ≡ pair_json a
pair_in d a h = let xs = made_of pair_of (list_form d) a h in list_in d xs.0 xs.1 ∙ of xs.0 xs.2
  where
    of : (xs : Items) → pair_of xs ≡ Ok a → array xs ≡ pair_json a
    of no_items h = absurd (cc)
    of (item r no_items) h = absurd (cc)
    of (item r (item c (item x xs))) h = absurd (cc)
    of (item r (item c no_items)) h =
        let p = made_of (λ p. and_then (λ c. Ok (id_at c p)) (counter_form c)) (replica_form r) a h in
        let n = made_of (λ c. Ok (id_at c p.0)) (counter_form c) a p.2 in
        (λ i. array (item (limited_in 4294967295 r p.0 p.1 i) (item (limited_in 4611686018427387904 c n.0 n.1 i) no_items)))
        ∙ ap pair_json (same_ok (id_at n.0 p.0) a n.2)

next_is : (p : ℕ) (a b : OpId) → next_of p a ≡ Ok b → a ≡ b
next_is p a b h = by (nat_lt p a.replica) h
  where
    by : (t : Bool) → cond t (Ok a) (Err BadLine) ≡ Ok b → a ≡ b
    by true e = same_ok a b e
    by false e = absurd (cc)

pairs_in : (p : ℕ) (xs : Items) (v : Vector) → pairs_above p xs ≡ Ok v → xs ≡ items_of (map pair_json v)
pairs_in p no_items v h = ap (λ (w : Vector). items_of (map pair_json w)) (same_ok [] v h)
pairs_in p (item d ds) v h =
    let a = made_of (λ (a : OpId). and_then (λ w. Ok (a ∷ w)) (pairs_above a.replica ds))
    (and_then (next_of p) (pair_form d)) v h in
    let b = made_of (next_of p) (pair_form d) a.0 a.1 in
    let w = made_of (λ w. Ok (a.0 ∷ w)) (pairs_above a.0.replica ds) v a.2 in
    let first : d ≡ pair_json a.0 = pair_in d b.0 b.1 ∙ ap pair_json (next_is p b.0 a.0 b.2) in
    (λ i. item (first i) (pairs_in a.0.replica ds w.0 w.1 i))
    ∙ ap (λ (u : Vector). items_of (map pair_json u)) (same_ok (a.0 ∷ w.0) v w.2)

pub vector_in : (d : Data) (v : Vector) → vector_form d ≡ Ok v → d ≡ vector_json v
vector_in d v h =
    let xs = made_of pairs_of (list_form d) v h in list_in d xs.0 xs.1 ∙ ap array (few xs.0 (nat_lt 256 (count_parts xs.0)) xs.2)
  where
    few : (xs : Items) (t : Bool) → cond t (Err BadLine) (pairs_above 0 xs) ≡ Ok v → xs ≡ items_of (map pair_json v)
    few xs true e = absurd (cc)
    few xs false e = pairs_in 0 xs v e

pub hello_in : (d : Data) (v : Vector) → and_then hello_of (phrase_form d) ≡ Ok v → d ≡ hello_json v
hello_in d v h =
    let p = made_of hello_of (phrase_form d) v h in phrase_in d p.0 p.1 ∙ by (bytes_eq p.0.0 (codes "hello")) p.0.0 p.0.1 refl p.2
  where
    only : (xs : Items) → only_vector xs ≡ Ok v → xs ≡ item (vector_json v) no_items
    only no_items h = absurd (cc)
    only (item x (item y ys)) h = absurd (cc)
    only (item x no_items) h = ap (λ d. item d no_items) (vector_in x v h)

    by : (t : Bool) (word : List ℕ) (xs : Items) → bytes_eq word (codes "hello") ≡ t → cond t (only_vector xs) (Err BadLine) ≡ Ok v
        → array (item (string word) xs) ≡ hello_json v
    by true word xs is e = λ i. array (item (string (word_is word (codes "hello") is i)) (only xs e i))
    by false word xs is e = absurd (cc)

-- ---- keys and paths

-- a key as it is written
abbrev key_data : LastKey → Data
key_data DocKey = root_json
key_data (FieldName n) = string n
key_data (ItemId a) = id_json a
key_data HeadKey = head_json

-- the tag with which an element is entered, as it is written
abbrev tag_word : Tag → List ℕ
tag_word AsMap = codes "m"
tag_word AsList = codes "l"
tag_word AsRegister = []

abbrev part_data : Data → Tag → Data
part_data before t = phrase (tag_word t) (before ∷ [])

abbrev parts_data : List Entered → List Data
parts_data xs = map (λ x. part_data (key_data x.key) x.tag) xs

numbered_in : (n : ℕ) (k : LastKey) → numbered_key n ≡ Ok k → count n ≡ key_data k
numbered_in n k h = by (n == 0) (n == 1) refl refl h
  where
    by : (s t : Bool) → (n == 0) ≡ s → (n == 1) ≡ t → cond s (Ok DocKey) (cond t (Ok HeadKey) (Err BadLine)) ≡ Ok k → count n ≡ key_data k
    by true t is_0 is_1 e = ap count (eqb-true n 0 is_0) ∙ ap key_data (same_ok DocKey k e)
    by false true is_0 is_1 e = ap count (eqb-true n 1 is_1) ∙ ap key_data (same_ok HeadKey k e)
    by false false is_0 is_1 e = absurd (cc)

key_in : (d : Data) (k : LastKey) → key_form d ≡ Ok k → d ≡ key_data k
key_in (string s) k h = by (nat_lt 256 (length s)) h
  where
    by : (t : Bool) → cond t (Err KeyTooLong) (Ok (FieldName s)) ≡ Ok k → string s ≡ key_data k
    by true e = absurd (cc)
    by false e = ap key_data (same_ok (FieldName s) k e)
key_in (array xs) k h =
    let a = made_of (λ a. Ok (ItemId a)) (id_of xs) k h in id_in xs a.0 a.1 ∙ ap key_data (same_ok (ItemId a.0) k a.2)
key_in (number n) k h =
    let m = made_of numbered_key (number_form (number n)) k h in number_in (number n) m.0 m.1 ∙ numbered_in m.0 k m.2
key_in null k h = absurd (cc)
key_in (boolean b) k h = absurd (cc)
key_in (object ms) k h = absurd (cc)

tag_in : (word : List ℕ) (t : Tag) → tag_form word ≡ Ok t → word ≡ tag_word t
tag_in word t h = by (bytes_eq word (codes "m")) (bytes_eq word (codes "l")) refl refl h
  where
    by : (m l : Bool) → bytes_eq word (codes "m") ≡ m → bytes_eq word (codes "l") ≡ l
        → cond m (Ok AsMap) (cond l (Ok AsList) (Err BadLine)) ≡ Ok t → word ≡ tag_word t
    by true l is_m is_l e = word_is word (codes "m") is_m ∙ ap tag_word (same_ok AsMap t e)
    by false true is_m is_l e = word_is word (codes "l") is_l ∙ ap tag_word (same_ok AsList t e)
    by false false is_m is_l e = absurd (cc)

only_key_in : (xs : Items) (k : LastKey) → only_key xs ≡ Ok k → xs ≡ item (key_data k) no_items
only_key_in no_items k h = absurd (cc)
only_key_in (item x (item y ys)) k h = absurd (cc)
only_key_in (item x no_items) k h = ap (λ d. item d no_items) (key_in x k h)

part_in : (d : Data) (x : Entered) → and_then entered_of (phrase_form d) ≡ Ok x
    → d ≡ part_data (key_data x.key) x.tag
part_in d x h =
    let p = made_of entered_of (phrase_form d) x h in
    let t = made_of (λ t. and_then (λ k. Ok (record { key = k; tag = t })) (only_key p.0.1)) (tag_form p.0.0) x p.2 in
    let k = made_of (λ k. Ok (record { key = k; tag = t.0 })) (only_key p.0.1) x t.2 in
    let it : Entered = record { key = k.0; tag = t.0 } in
    phrase_in d p.0 p.1
    ∙ (λ i. array (item (string (tag_in p.0.0 t.0 t.1 i)) (only_key_in p.0.1 k.0 k.1 i)))
    ∙ ap (λ (y : Entered). part_data (key_data y.key) y.tag) (same_ok it x k.2)

parts_in : (ds : Items) (xs : List Entered) → parts_of ds ≡ Ok xs → ds ≡ items_of (parts_data xs)
parts_in no_items xs h = ap (λ (ys : List Entered). items_of (parts_data ys)) (same_ok [] xs h)
parts_in (item d ds) xs h =
    let x = made_of (λ x. and_then (λ ys. Ok (x ∷ ys)) (parts_of ds)) (and_then entered_of (phrase_form d)) xs h in
    let ys = made_of (λ ys. Ok (x.0 ∷ ys)) (parts_of ds) xs x.2 in
    (λ i. item (part_in d x.0 x.1 i) (parts_in ds ys.0 ys.1 i))
    ∙ ap (λ (zs : List Entered). items_of (parts_data zs)) (same_ok (x.0 ∷ ys.0) xs ys.2)

path_in : (d : Data) (xs : List Entered) → path_form d ≡ Ok xs → d ≡ array (items_of (parts_data xs))
path_in d xs h =
    let ds = made_of path_of (list_form d) xs h in list_in d ds.0 ds.1 ∙ ap array (short ds.0 (nat_lt 32 (count_parts ds.0)) ds.2)
  where
    short : (ds : Items) (t : Bool) → cond t (Err TooDeep) (parts_of ds) ≡ Ok xs → ds ≡ items_of (parts_data xs)
    short ds true e = absurd (cc)
    short ds false e = parts_in ds xs e

-- ---- places

-- the parts from one key on, and the last key, lead from f to the element at these keys, or to the head of its list
abbrev LeadTo : Element → Data → List Data → Data → Place → Type 0
LeadTo f before ds last p =
    ((ks : List Hop) × (p ≡ At (down f ks)) × (ds ≡ parts_from before ks) × (last ≡ last_from before ks))
    ⊎ ((ks : List Hop) × (p ≡ HeadOf (down f ks)) × (ds ≡ parts_from before ks ++ phrase (codes "l") (last_from before ks ∷ []) ∷ [])
    × (last ≡ head_json))

-- one key more in front
one_field : (f : Element) (before : Data) (n : List ℕ) (ds : List Data) (last : Data) (p : Place) → LeadTo (Field f n) (string n) ds last p
    → LeadTo f before (part_data before AsMap ∷ ds) last p
one_field f before n ds last p (inl l) = inl (FieldHop n ∷ l.0, l.1, ap (λ es. part_data before AsMap ∷ es) l.2, l.3)
one_field f before n ds last p (inr l) = inr (FieldHop n ∷ l.0, l.1, ap (λ es. part_data before AsMap ∷ es) l.2, l.3)

one_item : (f : Element) (before : Data) (a : OpId) (ds : List Data) (last : Data) (p : Place) → LeadTo (Item f a) (id_json a) ds last p
    → LeadTo f before (part_data before AsList ∷ ds) last p
one_item f before a ds last p (inl l) = inl (ItemHop a ∷ l.0, l.1, ap (λ es. part_data before AsList ∷ es) l.2, l.3)
one_item f before a ds last p (inr l) = inr (ItemHop a ∷ l.0, l.1, ap (λ es. part_data before AsList ∷ es) l.2, l.3)

at_last : (f : Element) (before : Data) (t : Tag) (last : LastKey) (p : Place) → place_at_last f (Some t) last ≡ Ok p
    → LeadTo f before (part_data before t ∷ []) (key_data last) p
at_last f before AsList HeadKey p h = inr ([], sym (same_ok (HeadOf f) p h), refl, refl)
at_last f before AsList (ItemId a) p h = inl (ItemHop a ∷ [], sym (same_ok (At (Item f a)) p h), refl, refl)
at_last f before AsMap (FieldName n) p h = inl (FieldHop n ∷ [], sym (same_ok (At (Field f n)) p h), refl, refl)
at_last f before AsList DocKey p h = absurd (cc)
at_last f before AsList (FieldName n) p h = absurd (cc)
at_last f before AsMap DocKey p h = absurd (cc)
at_last f before AsMap (ItemId a) p h = absurd (cc)
at_last f before AsMap HeadKey p h = absurd (cc)
at_last f before AsRegister DocKey p h = absurd (cc)
at_last f before AsRegister (FieldName n) p h = absurd (cc)
at_last f before AsRegister (ItemId a) p h = absurd (cc)
at_last f before AsRegister HeadKey p h = absurd (cc)

-- what is below an element is written so that its parts lead there again, along the list of what was entered
below : (f : Element) (before : Data) (t : Tag) (xs : List Entered) (last : LastKey) (p : Place) → place_below f (Some t) xs last ≡ Ok p
    → LeadTo f before (part_data before t ∷ parts_data xs) (key_data last) p
below f before t [] last p h = at_last f before t last p h
below f before t (x ∷ xs) last p h = by t x.key refl (λ e d there. below e d x.tag xs last p there)
    (made_of (λ g. place_below g (Some x.tag) xs last) (element_at f (Some t) x.key) p h)
  where
    by : (t : Tag) (k : LastKey) → key_data x.key ≡ key_data k
        → ((e : Element) (d : Data) → place_below e (Some x.tag) xs last ≡ Ok p
        → LeadTo e d (part_data d x.tag ∷ parts_data xs) (key_data last) p)
        → (g : Element) × (element_at f (Some t) k ≡ Ok g) × (place_below g (Some x.tag) xs last ≡ Ok p)
        → LeadTo f before (part_data before t ∷ part_data (key_data x.key) x.tag ∷ parts_data xs) (key_data last) p
    by AsMap (FieldName n) same rest g =
        let there : place_below (Field f n) (Some x.tag) xs last
        ≡ Ok p = subst (λ e. place_below e (Some x.tag) xs last ≡ Ok p) (sym (same_ok (Field f n) g.0 g.1)) g.2 in
        one_field f before n (part_data (key_data x.key) x.tag ∷ parts_data xs) (key_data last) p
        (subst (λ d. LeadTo (Field f n) (string n) (part_data d x.tag ∷ parts_data xs) (key_data last) p) (sym same)
        (rest (Field f n) (string n) there))
    by AsList (ItemId a) same rest g =
        let there : place_below (Item f a) (Some x.tag) xs last
        ≡ Ok p = subst (λ e. place_below e (Some x.tag) xs last ≡ Ok p) (sym (same_ok (Item f a) g.0 g.1)) g.2 in
        one_item f before a (part_data (key_data x.key) x.tag ∷ parts_data xs) (key_data last) p
        (subst (λ d. LeadTo (Item f a) (id_json a) (part_data d x.tag ∷ parts_data xs) (key_data last) p) (sym same)
        (rest (Item f a) (id_json a) there))
    by AsMap DocKey same rest g = absurd (let e = g.1 in cc)
    by AsMap (ItemId a) same rest g = absurd (let e = g.1 in cc)
    by AsMap HeadKey same rest g = absurd (let e = g.1 in cc)
    by AsList DocKey same rest g = absurd (let e = g.1 in cc)
    by AsList (FieldName n) same rest g = absurd (let e = g.1 in cc)
    by AsList HeadKey same rest g = absurd (let e = g.1 in cc)
    by AsRegister DocKey same rest g = absurd (let e = g.1 in cc)
    by AsRegister (FieldName n) same rest g = absurd (let e = g.1 in cc)
    by AsRegister (ItemId a) same rest g = absurd (let e = g.1 in cc)
    by AsRegister HeadKey same rest g = absurd (let e = g.1 in cc)

-- what leads from the root to a place is that place, as it is written
led : (ds : List Data) (last : Data) (p : Place) → LeadTo Doc root_json ds last p
    → (array (items_of ds) ≡ path_json p) × (last ≡ last_json p)
led ds last p (inl l) =
    let keys : l.0 ≡ hops_from_root (down Doc l.0) = sym (hops_from_root-down l.0) in (
      ap (λ (es : List Data). array (items_of es)) (l.2 ∙ ap (parts_from root_json) keys) ∙ ap path_json (sym l.1),
      l.3 ∙ ap (last_from root_json) keys ∙ ap last_json (sym l.1),
    )
led ds last p (inr l) =
    let keys : l.0 ≡ hops_from_root (down Doc l.0) = sym (hops_from_root-down l.0) in (
      ap (λ (es : List Data). array (items_of es))
          (l.2 ∙ ap (λ ks. parts_from root_json ks ++ phrase (codes "l") (last_from root_json ks ∷ []) ∷ []) keys)
          ∙ ap path_json (sym l.1),
      l.3 ∙ ap last_json (sym l.1),
    )

from_root : (xs : List Entered) (last : LastKey) (p : Place) → place_below Doc None xs last ≡ Ok p
    → LeadTo Doc root_json (parts_data xs) (key_data last) p
from_root [] DocKey p h = inl ([], sym (same_ok (At Doc) p h), refl, refl)
from_root [] (FieldName n) p h = absurd (cc)
from_root [] (ItemId a) p h = absurd (cc)
from_root [] HeadKey p h = absurd (cc)
from_root (x ∷ xs) last p h = by x.key refl (made_of (λ g. place_below g (Some x.tag) xs last) (element_at Doc None x.key) p h)
  where
    by : (k : LastKey) → x.key ≡ k → (g : Element) × (element_at Doc None k ≡ Ok g) × (place_below g (Some x.tag) xs last ≡ Ok p)
        → LeadTo Doc root_json (part_data (key_data x.key) x.tag ∷ parts_data xs) (key_data last) p
    by DocKey same g =
        let there : place_below Doc (Some x.tag) xs last
        ≡ Ok p = subst (λ e. place_below e (Some x.tag) xs last ≡ Ok p) (sym (same_ok Doc g.0 g.1)) g.2 in
        subst (λ k. LeadTo Doc root_json (part_data (key_data k) x.tag ∷ parts_data xs) (key_data last) p) (sym same)
        (below Doc root_json x.tag xs last p there)
    by (FieldName n) same g = absurd (let e = g.1 in cc)
    by (ItemId a) same g = absurd (let e = g.1 in cc)
    by HeadKey same g = absurd (let e = g.1 in cc)

place_in : (path last : Data) (p : Place) → place_form path last ≡ Ok p → (path ≡ path_json p) × (last ≡ last_json p)
place_in path last p h =
    let xs = made_of (λ xs. and_then (place_below Doc None xs) (key_form last)) (path_form path) p h in
    let k = made_of (place_below Doc None xs.0) (key_form last) p xs.2 in
    let both = led (parts_data xs.0) (key_data k.0) p (from_root xs.0 k.0 p k.2) in
    (path_in path xs.0 xs.1 ∙ both.0, key_in last k.0 k.1 ∙ both.1)

-- ---- mutations

whole_in : (m : ℕ) (v : Value) → value_form (number (unsigned m)) ≡ Ok v → number (unsigned m) ≡ json_of v
whole_in m v h = by (nat_lt m (2 ^ 63)) h
  where
    by : (t : Bool) → ok_or (option_map (λ z. Plain (Whole z)) (cond t (Some (pos m)) None)) NotWhole ≡ Ok v
        → number (unsigned m) ≡ json_of v
    by true e = ap json_of (same_ok (Plain (Whole (pos m))) v e)
    by false e = absurd (cc)

short_in : (s : List ℕ) (v : Value) → value_form (string s) ≡ Ok v → string s ≡ json_of v
short_in s v h = by (nat_lt 4096 (length s)) h
  where
    by : (t : Bool) → cond t (Err TextTooLong) (Ok (Plain (Text s))) ≡ Ok v → string s ≡ json_of v
    by true e = absurd (cc)
    by false e = ap json_of (same_ok (Plain (Text s)) v e)

pub value_in : (d : Data) (v : Value) → IsNormal d → value_form d ≡ Ok v → d ≡ json_of v
value_in null v n h = ap json_of (same_ok (Plain Null) v h)
value_in (boolean b) v n h = ap json_of (same_ok (Plain (Boolean b)) v h)
value_in (number (unsigned m)) v n h = whole_in m v h
value_in (number (negative (pos m))) v n h = absurd n
value_in (number (negative (negsuc m))) v n h = ap json_of (same_ok (Plain (Whole (negsuc m))) v h)
value_in (number (float x)) v n h = absurd (cc)
value_in (string s) v n h = short_in s v h
value_in (array no_items) v n h = ap json_of (same_ok EmptyList v h)
value_in (array (item x xs)) v n h = absurd (cc)
value_in (object no_members) v n h = ap json_of (same_ok EmptyMap v h)
value_in (object (member k d ms)) v n h = absurd (cc)

only_value_in : (xs : Items) (v : Value) → AreNormal xs → only_value xs ≡ Ok v → xs ≡ item (json_of v) no_items
only_value_in no_items v n h = absurd (cc)
only_value_in (item x (item y ys)) v n h = absurd (cc)
only_value_in (item x no_items) v n h = ap (λ d. item d no_items) (value_in x v n.0 h)

nothing_in : (xs : Items) (m : Mutation) → nothing_more xs ≡ Ok m → array (item (string (codes "d")) xs) ≡ mutation_json m
nothing_in no_items m h = ap mutation_json (same_ok Delete m h)
nothing_in (item x xs) m h = absurd (cc)

mutation_in : (d : Data) (m : Mutation) → IsNormal d → mutation_form d ≡ Ok m → d ≡ mutation_json m
mutation_in d m normal h =
    let p = made_of mutation_of (phrase_form d) m h in
    let is = phrase_in d p.0 p.1 in
    is ∙ by p.0.0 p.0.1 (bytes_eq p.0.0 (codes "a")) (bytes_eq p.0.0 (codes "i")) (bytes_eq p.0.0 (codes "d")) refl refl refl
    ((subst IsNormal is normal).1) p.2
  where
    by : (word : List ℕ) (xs : Items) (a i d : Bool) → bytes_eq word (codes "a") ≡ a → bytes_eq word (codes "i") ≡ i
        → bytes_eq word (codes "d") ≡ d → AreNormal xs
        → cond a (and_then (λ v. Ok (Assign v)) (only_value xs))
        (cond i (and_then (λ v. Ok (Insert v)) (only_value xs)) (cond d (nothing_more xs) (Err BadLine)))
        ≡ Ok m
        → array (item (string word) xs) ≡ mutation_json m
    by word xs true i d is_a is_i is_d n e =
        let v = made_of (λ v. Ok (Assign v)) (only_value xs) m e in
        (λ j. array (item (string (word_is word (codes "a") is_a j)) (only_value_in xs v.0 n v.1 j)))
        ∙ ap mutation_json (same_ok (Assign v.0) m v.2)
    by word xs false true d is_a is_i is_d n e =
        let v = made_of (λ v. Ok (Insert v)) (only_value xs) m e in
        (λ j. array (item (string (word_is word (codes "i") is_i j)) (only_value_in xs v.0 n v.1 j)))
        ∙ ap mutation_json (same_ok (Insert v.0) m v.2)
    by word xs false false true is_a is_i is_d n e = ap (λ w. array (item (string w) xs)) (word_is word (codes "d") is_d)
        ∙ nothing_in xs m e
    by word xs false false false is_a is_i is_d n e = absurd (cc)

-- ---- operations

-- the fields as they are written
abbrev pub fields_data : Fields → Items
fields_data f = item f.id (item f.vector (item f.path (item f.last (item f.mutation no_items))))

pub five_in : (xs : Items) (f : Fields) → five_parts xs ≡ Ok f → xs ≡ fields_data f
five_in (item a (item b (item c (item d (item e no_items))))) f h = ap fields_data
    (same_ok (record { id = a; vector = b; path = c; last = d; mutation = e }) f h)
five_in no_items f h = absurd (cc)
five_in (item a no_items) f h = absurd (cc)
five_in (item a (item b no_items)) f h = absurd (cc)
five_in (item a (item b (item c no_items))) f h = absurd (cc)
five_in (item a (item b (item c (item d no_items)))) f h = absurd (cc)
five_in (item a (item b (item c (item d (item e (item x xs)))))) f h = absurd (cc)

fields_in : (d : Data) (f : Fields) → fields_form d ≡ Ok f → d ≡ array (item (string (codes "op")) (fields_data f))
fields_in d f h =
    let p = made_of parts_after (phrase_form d) f h in phrase_in d p.0 p.1 ∙ by p.0.0 p.0.1 (bytes_eq p.0.0 (codes "op")) refl p.2
  where
    by : (word : List ℕ) (xs : Items) (t : Bool) → bytes_eq word (codes "op") ≡ t → cond t (five_parts xs) (Err BadLine) ≡ Ok f
        → array (item (string word) xs) ≡ array (item (string (codes "op")) (fields_data f))
    by word xs true is e = λ i. array (item (string (word_is word (codes "op") is i)) (five_in xs f e i))
    by word xs false is e = absurd (cc)

-- the fields of an operation that was read from them, if its vector was read in this way
pub record AreOf (read : Data → Result Vector Refusal) (f : Fields) (s : Stamped) : Type 0 where
  pub id : f.id ≡ id_json s.id
  pub vector : read f.vector ≡ Ok s.vector
  pub path : f.path ≡ path_json s.place
  pub last : f.last ≡ last_json s.place
  pub mutation : f.mutation ≡ mutation_json s.mutation

pub fields_of_in : (read : Data → Result Vector Refusal) (f : Fields) (s : Stamped) → IsNormal f.mutation → fields_with read f ≡ Ok s
    → AreOf read f s
fields_of_in read f s normal h =
    let a = made_of
    (λ a. and_then
    (λ v. and_then (λ p. and_then (λ m. Ok (record { id = a; vector = v; place = p; mutation = m })) (mutation_form f.mutation))
    (place_form f.path f.last))
    (read f.vector))
    (id_form f.id) s h in
    let v = made_of
    (λ v. and_then (λ p. and_then (λ m. Ok (record { id = a.0; vector = v; place = p; mutation = m })) (mutation_form f.mutation))
    (place_form f.path f.last))
    (read f.vector) s a.2 in
    let p = made_of (λ p. and_then (λ m. Ok (record { id = a.0; vector = v.0; place = p; mutation = m })) (mutation_form f.mutation))
    (place_form f.path f.last) s v.2 in
    let m = made_of (λ m. Ok (record { id = a.0; vector = v.0; place = p.0; mutation = m })) (mutation_form f.mutation) s p.2 in
    let it : Stamped = record { id = a.0; vector = v.0; place = p.0; mutation = m.0 } in
    let place = place_in f.path f.last p.0 p.1 in
    subst (AreOf read f) (same_ok it s m.2)
    (record {
      id = id_form_in f.id a.0 a.1;
      vector = v.1;
      path = place.0;
      last = place.1;
      mutation = mutation_in f.mutation m.0 normal m.1;
    })

pub operation_in : (d : Data) (s : Stamped) → IsNormal d → operation_form d ≡ Ok s → d ≡ operation_json s
operation_in d s normal h =
    let f = made_of fields_of (fields_form d) s h in
    let is = fields_in d f.0 f.1 in
    let n = subst IsNormal is normal in
    let of = fields_of_in vector_form f.0 s n.1.1.1.1.1.0 f.2 in
    is
    ∙ (λ i. array
    (item (string (codes "op"))
    (item (of.id i)
    (item (vector_in f.0.vector s.vector of.vector i)
    (item (of.path i) (item (of.last i) (item (of.mutation i) no_items)))))))
