-- What eight lanes answer at once.
use Rattle.std.proofs.Common.{◌≡◌, ℕ, ◌+◌, ◌-◌, ◌*◌, ◌%◌, ◌^◌, ◌<◌, max, Bool, true, false, cond, ◌&&◌, ltb, eqb, List, [], ◌∷◌, length}
use Rattle.std.proofs.Common.{map, refl, sym, ap, ◌∙◌, arith, w64, pow-suc}
use Rattle.std.specs.List.{list_all}
use Rattle.std.specs.Simd.Lanes.{zip2, mask_l, sel_l, top}
use Rattle.std.specs.Cmp.Lexicographic.{pointwise}
use Rattle.std.proofs.lemmas.Bool.Decides.{nat_tests}
use Rattle.std.proofs.lemmas.Nat.{pow_pos}
use Rattle.std.proofs.lemmas.Simd.{tops_compared, length-zip2, mask_l-mod}

-- a comparison gives lanes of ones or of zeros
abbrev pub compared : (ℕ → ℕ → Bool) → List ℕ → List ℕ → List Bool
compared t xs ys = map (top 63) (zip2 (λ a b. cond (t a b) (2 ^ 64 - 1) 0) xs ys)

one_more : (m p : ℕ) → 0 < p → eqb (1 + 2 * m) (2 * p - 1) ≡ eqb m (p - 1)
one_more m p h = grind (arith, nat_tests)

even_odd : (m p : ℕ) → 0 < p → eqb (0 + 2 * m) (2 * p - 1) ≡ false
even_odd m p h = grind (arith, nat_tests)

-- a mask is all ones exactly where each bit is true
all_set : (bits : List Bool) → eqb (mask_l bits) (2 ^ length bits - 1) ≡ list_all (λ b. b) bits
all_set [] = refl
all_set (true ∷ bits) = rw
    (pow-suc) (ap (eqb _) (omega arith) ∙ one_more (mask_l bits) (2 ^ length bits) (pow_pos (length bits)) ∙ all_set bits)
all_set (false ∷ bits) = rw (pow-suc) (ap (eqb _) (omega arith) ∙ even_odd (mask_l bits) (2 ^ length bits) (pow_pos (length bits)))

list_all-zip2 : (t : ℕ → ℕ → Bool) (xs ys : List ℕ) → length xs ≡ length ys → list_all (λ b. b) (zip2 t xs ys) ≡ pointwise t xs ys
list_all-zip2 t [] [] h = refl
list_all-zip2 t [] (y ∷ ys) h = absurd (omega arith)
list_all-zip2 t (x ∷ xs) [] h = absurd (omega arith)
list_all-zip2 t (x ∷ xs) (y ∷ ys) h = ap (λ b. t x y && b) (list_all-zip2 t xs ys (omega arith))

-- `to_bitmask`
pub mask_of_lanes : (t : ℕ → ℕ → Bool) (xs ys : List ℕ) → length xs ≡ 8 → length ys ≡ 8
    → mask_l (compared t xs ys) % 2 ^ 64 ≡ mask_l (zip2 t xs ys)
mask_of_lanes t xs ys p q =
    ap (λ bits. mask_l bits % 2 ^ 64) (tops_compared w64 t xs ys)
    ∙ mask_l-mod (zip2 t xs ys) 64 (omega (arith, length-zip2 t xs ys (p ∙ sym q)))

-- `all`
pub all_lanes : (t : ℕ → ℕ → Bool) (xs ys : List ℕ) → length xs ≡ 8 → length ys ≡ 8
    → eqb (mask_l (compared t xs ys) % 2 ^ 64) 255 ≡ pointwise t xs ys
all_lanes t xs ys p q =
    let long : length (zip2 t xs ys) ≡ 8 = length-zip2 t xs ys (p ∙ sym q) ∙ p in
    ap (λ m. eqb m 255) (mask_of_lanes t xs ys p q) ∙ ap (λ n. eqb (mask_l (zip2 t xs ys)) (2 ^ n - 1)) (sym long)
    ∙ all_set (zip2 t xs ys) ∙ list_all-zip2 t xs ys (p ∙ sym q)

greater_of : (x y : ℕ) → cond (ltb x y) y x ≡ max x y
greater_of x y = grind (arith, nat_tests)

select_greater : (xs ys : List ℕ) → sel_l (zip2 ltb xs ys) ys xs ≡ zip2 max xs ys
select_greater [] ys = refl
select_greater (x ∷ xs) [] = refl
select_greater (x ∷ xs) (y ∷ ys) = λ i. greater_of x y i ∷ select_greater xs ys i

-- `simd_max`
pub greater_lanes : (xs ys : List ℕ) → sel_l (compared ltb xs ys) ys xs ≡ zip2 max xs ys
greater_lanes xs ys = ap (λ bits. sel_l bits ys xs) (tops_compared w64 ltb xs ys) ∙ select_greater xs ys
