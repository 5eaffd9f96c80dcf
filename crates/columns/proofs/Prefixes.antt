-- Where the first bytes of two names differ, they decide the order of the names.
use Rattle.std.proofs.Common.{◌≡◌, ◌<◌, ◌≤◌, ◌^◌, ◌++◌, ◌⊎◌, inl, inr, ℕ, zero, suc, List, [], ◌∷◌, length, get_or, refl, sym, ap, ◌∙◌}
use Rattle.std.proofs.Common.{subst}
use Rattle.std.proofs.Common.{arith, nat_cmp, Ordering, Less, Equal, Greater, map, take, drop, slice_get, Some}
use Rattle.std.specs.List.{insert}
use Rattle.std.specs.Ordering.{ordering_then}
use Rattle.std.specs.Cmp.{nat_cmp_is, ranked}
use Rattle.std.proofs.lemmas.Bool.{cases_lt}
use Rattle.std.proofs.lemmas.List.Elements.{All-append, All-cons, All-drop, All-head, All-tail, All-take}
use Rattle.std.proofs.lemmas.List.{map-append, take-map, drop-map, get_or-map, get_or_default}
use Rattle.std.proofs.lemmas.Option.{get_or_from_slice_get}
use Rattle.std.proofs.Math.Nat.{pow-suc, pow-le-pow_right}
use Rattle.semantics.specs.Elements.{Name, name_cmp}
use Rattle.semantics.proofs.Orders.{name_total}
use Rattle.columns.specs.Prefix.{first_bytes, AreBytes, ArePrefixes}
use Rattle.columns.proofs.Ranks.{turned}

-- each byte is below 256
pub bytes_from : (name : Name) → ((i : ℕ) → get_or name i 0 < 256) → AreBytes name
bytes_from name each = λ i d inside. (let h = each i in let same = get_or_default name i 0 d inside in omega (arith, h, same))

-- a byte, or 0 past the end
pub byte_below : (name : Name) (i : ℕ) → AreBytes name → get_or name i 0 < 256
byte_below [] i bytes = omega arith
byte_below (b ∷ name) zero bytes = All-head (λ b. b < 256) b name bytes
byte_below (b ∷ name) (suc i) bytes = byte_below name i (All-tail (λ b. b < 256) b name bytes)

prefix_below : (name : Name) (count : ℕ) → AreBytes name → first_bytes count name < 256 ^ count
prefix_below name zero bytes = omega arith
prefix_below name (suc i) bytes =
    let before = prefix_below name i bytes in
    let here = byte_below name i bytes in
    let more = pow-suc 256 i in
    omega (arith, before, here, more)

-- seven bytes leave room for one more
pub prefix_fits : (name : Name) (count : ℕ) → AreBytes name → count ≤ 7 → first_bytes count name < 72057594037927936
prefix_fits name count bytes few =
    let below = prefix_below name count bytes in
    let most : 256 ^ count ≤ 256 ^ 7 = pow-le-pow_right (omega arith) few in
    omega (arith, below, most)

-- the first `count` bytes of the names are the same
abbrev pub AreSameUpTo : ℕ → Name → Name → Type 0
AreSameUpTo count a b = (i : ℕ) → i < count → get_or a i 0 ≡ get_or b i 0

one_more : (count : ℕ) (a b : Name) → AreSameUpTo count a b → get_or a count 0 ≡ get_or b count 0 → AreSameUpTo (suc count) a b
one_more count a b same here i below = by_cases (cases_lt i count)
  where
    by_cases : (i < count) ⊎ (count ≤ i) → get_or a i 0 ≡ get_or b i 0
    by_cases (inl before) = same i before
    by_cases (inr behind) =
        let last : count ≡ i = omega (arith, below, behind) in
        subst (λ j. get_or a j 0 ≡ get_or b j 0) last here

-- the same number is of the same bytes
same_bytes : (count : ℕ) (a b : Name) → AreBytes a → AreBytes b → first_bytes count a ≡ first_bytes count b → AreSameUpTo count a b
same_bytes zero a b p q e = λ i below. absurd (omega (arith, below))
same_bytes (suc count) a b p q e =
    let x = byte_below a count p in
    let y = byte_below b count q in
    one_more count a b (same_bytes count a b p q (omega (arith, e, x, y))) (omega (arith, e, x, y))

-- where the names differ first, a has the smaller byte
abbrev pub IsLessAt : Name → Name → Type 0
IsLessAt a b = (i : ℕ) × AreSameUpTo i a b × (get_or a i 0 < get_or b i 0)

first_apart : (count : ℕ) (a b : Name) → AreBytes a → AreBytes b → first_bytes count a < first_bytes count b → IsLessAt a b
first_apart zero a b p q lt = absurd (omega (arith, lt))
first_apart (suc count) a b p q lt =
    let x = byte_below a count p in
    let y = byte_below b count q in
    by_cases (first_apart count a b p q) (same_bytes count a b p q)
    (λ not_before. (omega (arith, lt, x, y, not_before), omega (arith, lt, x, y, not_before)))
    (cases_lt (first_bytes count a) (first_bytes count b))
  where
    by_cases : (first_bytes count a < first_bytes count b → IsLessAt a b)
        → (first_bytes count a ≡ first_bytes count b → AreSameUpTo count a b)
        → (first_bytes count b ≤ first_bytes count a
        → (first_bytes count a ≡ first_bytes count b) × (get_or a count 0 < get_or b count 0))
        → (first_bytes count a < first_bytes count b) ⊎ (first_bytes count b ≤ first_bytes count a) → IsLessAt a b
    by_cases earlier same here (inl before) = earlier before
    by_cases earlier same here (inr not_before) = (count, same (here not_before).0, (here not_before).1)

less_from : (i : ℕ) (a b : Name) → AreSameUpTo i a b → get_or a i 0 < get_or b i 0 → name_cmp a b ≡ Less
less_from i a [] same lt = absurd (omega (arith, lt))
less_from i [] (y ∷ b) same lt = refl
less_from zero (x ∷ a) (y ∷ b) same lt = ap (λ o. ordering_then o (name_cmp a b)) (sym (nat_cmp_is x y Less lt))
less_from (suc i) (x ∷ a) (y ∷ b) same lt =
    ap (λ o. ordering_then o (name_cmp a b)) (sym (nat_cmp_is x y Equal (same 0 (omega arith))))
    ∙ less_from i a b (λ j below. same (suc j) (omega (arith, below))) lt

prefix_less : (a b : Name) → AreBytes a → AreBytes b → first_bytes 8 a < first_bytes 8 b → name_cmp a b ≡ Less
prefix_less a b p q lt = let apart = first_apart 8 a b p q lt in less_from apart.0 a b apart.1 apart.2

-- prefixes that differ are ordered as the names are
pub prefix_decides : (a b : Name) → AreBytes a → AreBytes b → (o : Ordering) → nat_cmp (first_bytes 8 a) (first_bytes 8 b) ≡ o
    → (o ≡ Equal → ⊥) → name_cmp a b ≡ o
prefix_decides a b p q Less e apart = prefix_less a b p q (ranked _ _ Less (sym e))
prefix_decides a b p q Equal e apart = absurd (apart refl)
prefix_decides a b p q Greater e apart =
    turned name_cmp name_total b a Less (prefix_less b a q p (ranked _ _ Greater (sym e)))

-- the prefix at a position is that of the name there
pub prefix_at : (names : List Name) (prefixes : List ℕ) (position p : ℕ) → ArePrefixes names prefixes → position < length names
    → slice_get prefixes position ≡ Some p → p ≡ first_bytes 8 (get_or names position [])
prefix_at names prefixes position p are within at =
    sym (get_or_from_slice_get prefixes position p 0 at)
    ∙ ap (λ ps. get_or ps position 0) are.paired
    ∙ get_or-map (first_bytes 8) names position [] 0 within

-- an item is put into a list before its image is made, or after
pub map_insert : {X Y : Type 0} (f : X → Y) (xs : List X) (i : ℕ) (x : X) → insert (map f xs) i (f x) ≡ map f (insert xs i x)
map_insert f xs i x =
    (λ t. take-map f i xs t ++ f x ∷ drop-map f i xs t) ∙ sym (map-append f (take i xs) (x ∷ drop i xs))

-- one more name, and its prefix beside it
pub prefixes_more : (names : List Name) (prefixes : List ℕ) (name : Name) (position : ℕ) → AreBytes name → ArePrefixes names prefixes
    → ArePrefixes (insert names position name) (insert prefixes position (first_bytes 8 name))
prefixes_more names prefixes name position bytes are = record {
  paired = ap (λ xs. insert xs position (first_bytes 8 name)) are.paired ∙ map_insert (first_bytes 8) names position name;
  bytes =
      All-append AreBytes (take position names) (name ∷ drop position names) (All-take AreBytes position names are.bytes)
      (All-cons AreBytes name (drop position names) bytes (All-drop AreBytes position names are.bytes));
}
