-- What is read relative to a base is the JSON that writing it in one of the profiles gives.
use Rattle.std.proofs.Common.{◌≡◌, ◌≢◌, ℕ, ◌<◌, ◌≤◌, ◌&&◌, ◌==◌, not, nat_le, nat_lt, length, Bool, true, false, cond, [], ◌∷◌, map, List}
use Rattle.std.proofs.Common.{Ok, Err, refl, sym, ap, ◌∙◌, subst, arith}
use Rattle.std.specs.Prelude.{codes}
use Rattle.std.specs.Str.{bytes_eq}
use Rattle.std.proofs.lemmas.Bool.{and_parts, eqb-false, leb-true, ltb-true, not-true}
use Rattle.ids.specs.Configurations.{is_from_one_to}
use Rattle.ids.specs.declared.refusal.Refusal.TheVariants.{BadLine}
use Rattle.semantics.specs.Ids.{OpId, id_at}
use Rattle.semantics.specs.Stamped.{Stamped}
use Rattle.semantics.specs.Vectors.{AreAbove, IsCanonical, Vector, at}
use Rattle.serde_json.specs.Data.{Data, array, string, Items, no_items, item}
use Rattle.serde_json.specs.View.{items_of}
use Rattle.wire.specs.Deltas.{change_counter_form, change_form, change_of, changed, changes_above, delta, delta_form, few_of}
use Rattle.wire.specs.Deltas.{next_change_of}
use Rattle.wire.specs.Forms.{and_then, count_parts, list_form, number_form, phrase_form}
use Rattle.wire.specs.OpIds.{counter_form, limited_form, replica_form}
use Rattle.wire.specs.Profiles.{Differences, Profile, Whole, beside_of, fields_beside, json_in, operation_beside}
use Rattle.wire.specs.Reading.{Fields, fields_of, five_parts}
use Rattle.wire.specs.Vectors.{count, next_of, pair_form, pair_json, pair_of, pairs_above, pairs_of, vector_form, vector_json}
use Rattle.wire.proofs.ChangedBack.{delta-changed}
use Rattle.wire.proofs.DeltaSteps.{above_more, canonical_changed}
use Rattle.wire.proofs.NormalNumbers.{IsNormal}
use Rattle.wire.proofs.ToldDeltas.{Tells}
use Rattle.wire.proofs.WrittenBack.{fields_data, fields_of_in, five_in, limited_in, list_in, made_of, number_in, phrase_in}
use Rattle.wire.proofs.WrittenBack.{same_ok, vector_in, word_is}

-- ---- what changed

counter_in : (d : Data) (n : ℕ) → change_counter_form d ≡ Ok n → d ≡ count n
counter_in d n h =
    let m = made_of (λ c. cond (nat_le c 4611686018427387904) (Ok c) (Err BadLine)) (number_form d) n h in
    number_in d m.0 m.1 ∙ ap count (within (nat_le m.0 4611686018427387904) m.0 m.2)
  where
    within : (t : Bool) (m : ℕ) → cond t (Ok m) (Err BadLine) ≡ Ok n → m ≡ n
    within true m e = same_ok m n e
    within false m e = absurd (cc)

change_in : (d : Data) (a : OpId) → change_form d ≡ Ok a → d ≡ pair_json a
change_in d a h = let xs = made_of change_of (list_form d) a h in list_in d xs.0 xs.1 ∙ of xs.0 xs.2
  where
    of : (xs : Items) → change_of xs ≡ Ok a → array xs ≡ pair_json a
    of no_items h = absurd (cc)
    of (item r no_items) h = absurd (cc)
    of (item r (item c (item x xs))) h = absurd (cc)
    of (item r (item c no_items)) h =
        let p = made_of (λ p. and_then (λ c. Ok (id_at c p)) (change_counter_form c)) (replica_form r) a h in
        let n = made_of (λ c. Ok (id_at c p.0)) (change_counter_form c) a p.2 in
        (λ i. array (item (limited_in 4294967295 r p.0 p.1 i) (item (counter_in c n.0 n.1 i) no_items)))
        ∙ ap pair_json (same_ok (id_at n.0 p.0) a n.2)

-- a change that is taken is above the one before it, and changes something
record IsNext (base : Vector) (p : ℕ) (a b : OpId) : Type 0 where
  same : a ≡ b
  above : p < b.replica
  other : at base b.replica ≢ b.counter

next_in : (base : Vector) (p : ℕ) (a b : OpId) → next_change_of base p a ≡ Ok b → IsNext base p a b
next_in base p a b h = by (nat_lt p a.replica && not (at base a.replica == a.counter)) refl h
  where
    by : (t : Bool) → (nat_lt p a.replica && not (at base a.replica == a.counter)) ≡ t → cond t (Ok a) (Err BadLine) ≡ Ok b
        → IsNext base p a b
    by true is e =
        let both = and_parts (nat_lt p a.replica) (not (at base a.replica == a.counter)) is in
        subst (IsNext base p a) (same_ok a b e)
        (record {
          same = refl;
          above = ltb-true p a.replica both.0;
          other = eqb-false (at base a.replica) a.counter (not-true (at base a.replica == a.counter) both.1);
        })
    by false is e = absurd (cc)

-- what such pairs are
record AreTold (base : Vector) (p : ℕ) (xs : Items) (d : Vector) : Type 0 where
  is : xs ≡ items_of (map pair_json d)
  above : AreAbove p d
  told : Tells base d

changes_in : (base : Vector) (p : ℕ) (xs : Items) (d : Vector) → changes_above base p xs ≡ Ok d → AreTold base p xs d
changes_in base p no_items d h =
    subst (AreTold base p no_items) (same_ok [] d h) (record { is = refl; above = tt; told = tt })
changes_in base p (item x xs) d h =
    let a = made_of (λ (a : OpId). and_then (λ d. Ok (a ∷ d)) (changes_above base a.replica xs))
    (and_then (next_change_of base p) (change_form x)) d h in
    let b = made_of (next_change_of base p) (change_form x) a.0 a.1 in
    let w = made_of (λ d. Ok (a.0 ∷ d)) (changes_above base a.0.replica xs) d a.2 in
    let next = next_in base p b.0 a.0 b.2 in
    let more = changes_in base a.0.replica xs w.0 w.1 in
    subst (AreTold base p (item x xs)) (same_ok (a.0 ∷ w.0) d w.2)
    (record {
      is = λ i. item ((change_in x b.0 b.1 ∙ ap pair_json next.same) i) (more.is i);
      above = (next.above, above_more p a.0.replica w.0 (omega (arith, next.above)) more.above);
      told = (more.above, next.other, more.told);
    })

few_is : (w v : Vector) → few_of w ≡ Ok v → w ≡ v
few_is w v h = by (nat_lt 256 (length w)) h
  where
    by : (t : Bool) → cond t (Err BadLine) (Ok w) ≡ Ok v → w ≡ v
    by true e = absurd (cc)
    by false e = same_ok w v e

delta_in : (base : Vector) (d : Data) (v : Vector) → IsCanonical base → delta_form base d ≡ Ok v
    → (d ≡ vector_json (delta base v)) × IsCanonical v
delta_in base d v h e =
    let c = made_of (λ changes. few_of (changed base changes)) (and_then (changes_above base 0) (list_form d)) v e in
    let xs = made_of (changes_above base 0) (list_form d) c.0 c.1 in
    let told = changes_in base 0 xs.0 c.0 xs.2 in
    let is : changed base c.0 ≡ v = few_is (changed base c.0) v c.2 in
    let back : c.0 ≡ delta base v = sym (delta-changed base c.0 h told.told) ∙ ap (delta base) is in (
      list_in d xs.0 xs.1 ∙ ap array told.is ∙ ap vector_json back,
      subst IsCanonical is (canonical_changed base c.0 h),
    )

-- ---- whole vectors

limited_counted : (limit : ℕ) (d : Data) (n : ℕ) → limited_form limit d ≡ Ok n → n ≢ 0
limited_counted limit d n h =
    let m = made_of (λ k. cond (is_from_one_to limit k) (Ok k) (Err BadLine)) (number_form d) n h in
    by m.0 (is_from_one_to limit m.0) refl m.2
  where
    by : (m : ℕ) (t : Bool) → is_from_one_to limit m ≡ t → cond t (Ok m) (Err BadLine) ≡ Ok n → n ≢ 0
    by m true is e none =
        let some = and_parts (nat_le 1 m) (nat_le m limit) is in
        let above : 1 ≤ m = leb-true 1 m some.0 in
        let same : m ≡ n = same_ok m n e in
        omega (arith, above, same, none)
    by m false is e none = absurd (cc)

pair_counted : (d : Data) (a : OpId) → pair_form d ≡ Ok a → a.counter ≢ 0
pair_counted d a h = let xs = made_of pair_of (list_form d) a h in of xs.0 xs.2
  where
    of : (xs : Items) → pair_of xs ≡ Ok a → a.counter ≢ 0
    of no_items h = absurd (cc)
    of (item r no_items) h = absurd (cc)
    of (item r (item c (item x xs))) h = absurd (cc)
    of (item r (item c no_items)) h =
        let p = made_of (λ p. and_then (λ c. Ok (id_at c p)) (counter_form c)) (replica_form r) a h in
        let n = made_of (λ c. Ok (id_at c p.0)) (counter_form c) a p.2 in
        subst (λ (b : OpId). b.counter ≢ 0) (same_ok (id_at n.0 p.0) a n.2) (limited_counted 4611686018427387904 c n.0 n.1)

next_above : (p : ℕ) (a b : OpId) → next_of p a ≡ Ok b → (a ≡ b) × (p < b.replica)
next_above p a b h = by (nat_lt p a.replica) refl h
  where
    by : (t : Bool) → nat_lt p a.replica ≡ t → cond t (Ok a) (Err BadLine) ≡ Ok b → (a ≡ b) × (p < b.replica)
    by true is e = let same = same_ok a b e in (same, subst (λ (c : OpId). p < c.replica) same (ltb-true p a.replica is))
    by false is e = absurd (cc)

pairs_rise : (p : ℕ) (xs : Items) (v : Vector) → pairs_above p xs ≡ Ok v → AreAbove p v × IsCanonical v
pairs_rise p no_items v h = subst (λ (w : Vector). AreAbove p w × IsCanonical w) (same_ok [] v h) (tt, tt)
pairs_rise p (item d ds) v h =
    let a = made_of (λ (a : OpId). and_then (λ w. Ok (a ∷ w)) (pairs_above a.replica ds))
    (and_then (next_of p) (pair_form d)) v h in
    let b = made_of (next_of p) (pair_form d) a.0 a.1 in
    let w = made_of (λ w. Ok (a.0 ∷ w)) (pairs_above a.0.replica ds) v a.2 in
    let next = next_above p b.0 a.0 b.2 in
    let some = subst (λ (c : OpId). c.counter ≢ 0) next.0 (pair_counted d b.0 b.1) in
    let more = pairs_rise a.0.replica ds w.0 w.1 in
    subst (λ (u : Vector). AreAbove p u × IsCanonical u) (same_ok (a.0 ∷ w.0) v w.2)
    ((next.1, above_more p a.0.replica w.0 (omega (arith, next.1)) more.0), (some, more.0, more.1))

vector_rises : (d : Data) (v : Vector) → vector_form d ≡ Ok v → IsCanonical v
vector_rises d v h = let xs = made_of pairs_of (list_form d) v h in few xs.0 (nat_lt 256 (count_parts xs.0)) xs.2
  where
    few : (xs : Items) (t : Bool) → cond t (Err BadLine) (pairs_above 0 xs) ≡ Ok v → IsCanonical v
    few xs true e = absurd (cc)
    few xs false e = (pairs_rise 0 xs v e).1

-- ---- operations

-- JSON of an operation relative to a base, in one of the profiles; and its vector can in turn be a base
pub record IsIn (base : Vector) (d : Data) (s : Stamped) : Type 0 where
  pub profile : Profile
  pub is : d ≡ json_in profile base s
  pub canonical : IsCanonical s.vector

whole_in : (base : Vector) (f : Fields) (s : Stamped) → IsNormal f.mutation → fields_of f ≡ Ok s
    → IsIn base (array (item (string (codes "op")) (fields_data f))) s
whole_in base f s normal h =
    let of = fields_of_in vector_form f s normal h in
    record {
      profile = Whole;
      is = λ i. array
          (item (string (codes "op"))
          (item (of.id i)
          (item (vector_in f.vector s.vector of.vector i) (item (of.path i) (item (of.last i) (item (of.mutation i) no_items))))));
      canonical = vector_rises f.vector s.vector of.vector;
    }

differences_in : (base : Vector) (f : Fields) (s : Stamped) → IsCanonical base → IsNormal f.mutation → fields_beside base f ≡ Ok s
    → IsIn base (array (item (string (codes "op2")) (fields_data f))) s
differences_in base f s h normal e =
    let of = fields_of_in (delta_form base) f s normal e in
    let vector = delta_in base f.vector s.vector h of.vector in
    record {
      profile = Differences;
      is = λ i. array
          (item (string (codes "op2"))
          (item (of.id i) (item (vector.0 i) (item (of.path i) (item (of.last i) (item (of.mutation i) no_items))))));
      canonical = vector.1;
    }

pub beside_in : (base : Vector) (d : Data) (s : Stamped) → IsCanonical base → IsNormal d → operation_beside base d ≡ Ok s → IsIn base d s
beside_in base d s h normal e =
    let p = made_of (beside_of base) (phrase_form d) s e in
    by p.0.0 p.0.1 (bytes_eq p.0.0 (codes "op")) (bytes_eq p.0.0 (codes "op2")) refl refl (phrase_in d p.0 p.1) p.2
  where
    by : (word : List ℕ) (xs : Items) (t u : Bool) → bytes_eq word (codes "op") ≡ t → bytes_eq word (codes "op2") ≡ u
        → d ≡ array (item (string word) xs)
        → cond t (and_then fields_of (five_parts xs)) (cond u (and_then (fields_beside base) (five_parts xs)) (Err BadLine)) ≡ Ok s
        → IsIn base d s
    by word xs true u is_t is_u is e =
        let f = made_of fields_of (five_parts xs) s e in
        let all : d ≡ array (item (string (codes "op")) (fields_data f.0)) =
        is ∙ (λ i. array (item (string (word_is word (codes "op") is_t i)) (five_in xs f.0 f.1 i))) in
        let n = subst IsNormal all normal in
        subst (λ (x : Data). IsIn base x s) (sym all) (whole_in base f.0 s n.1.1.1.1.1.0 f.2)
    by word xs false true is_t is_u is e =
        let f = made_of (fields_beside base) (five_parts xs) s e in
        let all : d ≡ array (item (string (codes "op2")) (fields_data f.0)) =
        is ∙ (λ i. array (item (string (word_is word (codes "op2") is_u i)) (five_in xs f.0 f.1 i))) in
        let n = subst IsNormal all normal in
        subst (λ (x : Data). IsIn base x s) (sym all) (differences_in base f.0 s h n.1.1.1.1.1.0 f.2)
    by word xs false false is_t is_u is e = absurd (cc)
