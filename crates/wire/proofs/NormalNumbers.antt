-- In what is read from a text, each number marked as negative is below 0.
use Rattle.std.proofs.Common.{◌≡◌, ◌<◌, ◌^◌, ◌&&◌, ◌==◌, ℕ, zero, suc, Bool, true, false, cond, nat_lt, nat_le, List, Option, Some, None}
use Rattle.std.proofs.Common.{refl, arith}
use Rattle.std.specs.Prelude.{⊤, pos, negsuc, option_map, option_and_then, slice_index, drop}
use Rattle.std.specs.Float.{binary64, float_is_finite}
use Rattle.std.proofs.lemmas.Bool.{and_parts, ltb-true}
use Rattle.fast_float.specs.Text.{Parts, digits_of, minus, nearest, scan, with_sign}
use Rattle.json.specs.Json as json
use Rattle.serde_json.specs.Data.{Num, unsigned, negative, float, Data, null, boolean, number, string, array, object, Items, no_items, item}
use Rattle.serde_json.specs.Data.{no_members}
use Rattle.serde_json.specs.Read.{float_of, is_integer, max_depth, number_from, number_of, of_items, of_json, of_members, read}
use Rattle.json.specs.Lex.{tokens}

-- a number marked as negative is below 0
abbrev pub IsNormalNumber : Num → Type 0
IsNormalNumber (unsigned n) = ⊤
IsNormalNumber (negative (pos n)) = ⊥
IsNormalNumber (negative (negsuc n)) = ⊤
IsNormalNumber (float x) = ⊤

-- each number outside of objects is so
abbrev mutual
  pub IsNormal : Data → Type 0
  IsNormal null = ⊤
  IsNormal (boolean b) = ⊤
  IsNormal (number n) = IsNormalNumber n
  IsNormal (string s) = ⊤
  IsNormal (array ds) = AreNormal ds
  IsNormal (object ms) = ⊤

  pub AreNormal : Items → Type 0
  AreNormal no_items = ⊤
  AreNormal (item d ds) = IsNormal d × AreNormal ds

-- ---- what an optional answer was made of

pub and_then_some : {A B : Type 0} (f : A → Option B) (o : Option A) (y : B) → option_and_then f o ≡ Some y
    → (x : A) × (o ≡ Some x) × (f x ≡ Some y)
and_then_some f (Some x) y h = (x, refl, h)
and_then_some f None y h = absurd (cc)

pub map_some : {A B : Type 0} (f : A → B) (o : Option A) (y : B) → option_map f o ≡ Some y → (x : A) × (o ≡ Some x) × (f x ≡ y)
map_some f (Some x) y h = (x, refl, (let e : f x ≡ y = cc in e))
map_some f None y h = absurd (cc)

-- ---- numbers

normal_float : (sign : Bool) (p : Parts) (n : Num) → float_of sign p ≡ Some n → IsNormalNumber n
normal_float sign p n h = at_test (float_is_finite (nearest binary64 sign p)) h
  where
    at_test : (t : Bool) → cond t (Some (float (nearest binary64 sign p))) None ≡ Some n → IsNormalNumber n
    at_test true e = (let is : float (nearest binary64 sign p) ≡ n = cc in rw (← is) tt)
    at_test false e = absurd (cc)

below_zero : (n : ℕ) → 0 < n → IsNormalNumber (negative (with_sign true n))
below_zero zero h = absurd (omega arith)
below_zero (suc n) h = tt

normal_from : (sign : Bool) (p : Parts) (n : Num) → number_from sign p ≡ Some n → IsNormalNumber n
normal_from false p n h = at_test (is_integer p && nat_lt (digits_of p) (2 ^ 64)) h
  where
    at_test : (t : Bool) → cond t (Some (unsigned (digits_of p))) (float_of false p) ≡ Some n → IsNormalNumber n
    at_test true e = (let is : unsigned (digits_of p) ≡ n = cc in rw (← is) tt)
    at_test false e = normal_float false p n e
normal_from true p n h = at_test (is_integer p && nat_lt 0 (digits_of p) && nat_le (digits_of p) (2 ^ 63)) refl h
  where
    at_test : (t : Bool) → (is_integer p && nat_lt 0 (digits_of p) && nat_le (digits_of p) (2 ^ 63)) ≡ t
        → cond t (Some (negative (with_sign true (digits_of p)))) (float_of true p) ≡ Some n → IsNormalNumber n
    at_test true test e =
        let parts = and_parts (is_integer p && nat_lt 0 (digits_of p)) (nat_le (digits_of p) (2 ^ 63)) test in
        let some = and_parts (is_integer p) (nat_lt 0 (digits_of p)) parts.0 in
        let is : negative (with_sign true (digits_of p)) ≡ n = cc in
        rw (← is) (below_zero (digits_of p) (ltb-true 0 (digits_of p) some.1))
    at_test false test e = normal_float true p n e

normal_number : (s : List ℕ) (n : Num) → number_of s ≡ Some n → IsNormalNumber n
unfolding number_of
normal_number s n h = at_test (slice_index s 0 == minus) h
  where
    at_test : (t : Bool) → cond t (number_from true (scan (drop 1 s))) (number_from false (scan s)) ≡ Some n → IsNormalNumber n
    at_test true e = normal_from true (scan (drop 1 s)) n e
    at_test false e = normal_from false (scan s) n e

-- ---- values

mutual
  normal : (j : json.Json) (d : Data) → of_json j ≡ Some d → IsNormal d
  normal json.null d h = (let is : null ≡ d = cc in rw (← is) tt)
  normal (json.boolean b) d h = (let is : boolean b ≡ d = cc in rw (← is) tt)
  normal (json.number s) d h = (let n = map_some number (number_of s) d h in rw (← n.2) (normal_number s n.0 n.1))
  normal (json.string s) d h = (let is : string s ≡ d = cc in rw (← is) tt)
  normal (json.array js) d h = (let ds = map_some array (of_items js) d h in rw (← ds.2) (all_normal js ds.0 ds.1))
  normal (json.object ms) d h = (let o = map_some object (of_members ms no_members) d h in rw (← o.2) tt)

  all_normal : (js : json.Items) (ds : Items) → of_items js ≡ Some ds → AreNormal ds
  all_normal json.no_items ds h = (let is : no_items ≡ ds = cc in rw (← is) tt)
  all_normal (json.item j js) ds h =
      let first = and_then_some (λ (d : Data). option_map (item d) (of_items js)) (of_json j) ds h in
      let rest = map_some (item first.0) (of_items js) ds first.2 in
      rw (← rest.2) (normal j first.0 first.1, all_normal js rest.0 rest.1)

pub read_normal : (text : List ℕ) (d : Data) → read text ≡ Some d → IsNormal d
read_normal text d h =
    let j = and_then_some of_json (option_and_then (λ p. json.if_last p.0 p.1) (json.value max_depth (tokens text))) d h in
    normal j.0 d j.2
