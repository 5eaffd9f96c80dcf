-- The greatest number of parts of a list, and lists in which the first numbers were raised.
use Rattle.std.proofs.Common.{◌≡◌, ℕ, zero, suc, ◌+◌, ◌*◌, ◌<◌, ◌≤◌, max, List, [], ◌∷◌, ◌++◌, length, get_or, set, take, drop, refl, sym}
use Rattle.std.proofs.Common.{ap, ◌∙◌, arith, suc-add, zero-add}
use Rattle.std.specs.Simd.Lanes.{zip2, chunk, put_chunk}
use Rattle.std.proofs.lemmas.Simd.{chunk-drop, length-chunk, length-zip2}
use Rattle.lanes.specs.Kernels.{greatest}

pub greatest-append : (xs ys : List ℕ) → greatest (xs ++ ys) ≡ max (greatest xs) (greatest ys)
greatest-append [] ys = omega arith
greatest-append (x ∷ xs) ys = omega (arith, greatest-append xs ys)

pub greatest-zip2 : (xs ys : List ℕ) → length xs ≡ length ys → greatest (zip2 max xs ys) ≡ max (greatest xs) (greatest ys)
greatest-zip2 [] [] h = refl
greatest-zip2 [] (y ∷ ys) h = absurd (omega arith)
greatest-zip2 (x ∷ xs) [] h = absurd (omega arith)
greatest-zip2 (x ∷ xs) (y ∷ ys) h = omega (arith, greatest-zip2 xs ys (omega arith))

pub greatest-drop : (i n : ℕ) (xs : List ℕ) → greatest (drop i xs) ≡ max (greatest (chunk i n xs)) (greatest (drop (i + n) xs))
greatest-drop i n xs = ap greatest (chunk-drop i n xs) ∙ greatest-append (chunk i n xs) (drop (i + n) xs)

-- the first n of xs are raised to those of ys
abbrev pub raised : ℕ → List ℕ → List ℕ → List ℕ
raised n xs ys = zip2 max (take n xs) (take n ys) ++ drop n xs

-- raise n more, from i on
pub raised_more : (i n : ℕ) (xs ys : List ℕ) → length xs ≡ length ys → i + n ≤ length xs
    → put_chunk i (raised i xs ys) (zip2 max (chunk i n (raised i xs ys)) (chunk i n ys)) ≡ raised (i + n) xs ys
raised_more zero zero [] ys long within = refl
raised_more zero zero (x ∷ xs) ys long within = refl
raised_more zero (suc n) [] ys long within = absurd (omega arith)
raised_more zero (suc n) (x ∷ xs) [] long within = absurd (omega arith)
raised_more zero (suc n) (x ∷ xs) (y ∷ ys) long within =
    rw (zero-add) (ap (λ l. max x y ∷ l) (raised_more zero n xs ys (omega arith) (omega arith) ∙ ap (λ m. raised m xs ys) (zero-add n)))
raised_more (suc i) n [] ys long within = absurd (omega arith)
raised_more (suc i) n (x ∷ xs) [] long within = absurd (omega arith)
raised_more (suc i) n (x ∷ xs) (y ∷ ys) long within =
    rw (suc-add) (ap (λ l. max x y ∷ l) (raised_more i n xs ys (omega arith) (omega arith)))

-- raise one more
pub raised_one : (i : ℕ) (xs ys : List ℕ) → length xs ≡ length ys → i < length xs
    → set (raised i xs ys) i (max (get_or (raised i xs ys) i 0) (get_or ys i 0)) ≡ raised (i + 1) xs ys
raised_one i [] ys long within = absurd (omega arith)
raised_one i (x ∷ xs) [] long within = absurd (omega arith)
raised_one zero (x ∷ xs) (y ∷ ys) long within = refl
raised_one (suc i) (x ∷ xs) (y ∷ ys) long within = rw (suc-add) (ap (λ l. max x y ∷ l) (raised_one i xs ys (omega arith) (omega arith)))

pub raised_all : (n : ℕ) (xs ys : List ℕ) → length xs ≡ n → length ys ≡ n → raised n xs ys ≡ zip2 max xs ys
raised_all zero [] ys p q = refl
raised_all zero (x ∷ xs) ys p q = absurd (omega arith)
raised_all (suc n) [] ys p q = absurd (omega arith)
raised_all (suc n) (x ∷ xs) [] p q = absurd (omega arith)
raised_all (suc n) (x ∷ xs) (y ∷ ys) p q = ap (λ l. max x y ∷ l) (raised_all n xs ys (omega arith) (omega arith))

-- a block is raised
pub raised_block : (i : ℕ) (xs ys now new block : List ℕ) → length xs ≡ length ys → 8 * i + 8 ≤ length xs → now ≡ raised (8 * i) xs ys
    → block ≡ chunk (8 * i) 8 ys
    → new ≡ put_chunk (8 * i) now (zip2 max (chunk (8 * i) 8 now) block) → new ≡ raised (8 * (i + 1)) xs ys
raised_block i xs ys now new block long within so_far is_block e =
    e ∙ (λ j. put_chunk (8 * i) (so_far j) (zip2 max (chunk (8 * i) 8 (so_far j)) (is_block j)))
    ∙ raised_more (8 * i) 8 xs ys long within ∙ ap (λ m. raised m xs ys) (omega arith)

-- the next is raised
pub raised_next : (i : ℕ) (xs ys now : List ℕ) (m : ℕ) → length xs ≡ length ys → i < length xs → now ≡ raised i xs ys
    → m ≡ max (get_or now i 0) (get_or ys i 0) → set now i m ≡ raised (i + 1) xs ys
raised_next i xs ys now m long within so_far e =
    ap (set now i) e ∙ (λ j. set (so_far j) i (max (get_or (so_far j) i 0) (get_or ys i 0))) ∙ raised_one i xs ys long within

-- the greatest of a block goes into the lanes
pub greatest_more : (i : ℕ) (xs lanes new block : List ℕ) (w : ℕ) → 8 * i + 8 ≤ length xs → length lanes ≡ 8 → block ≡ chunk (8 * i) 8 xs
    → new ≡ zip2 max lanes block
    → max (greatest lanes) (greatest (drop (8 * i) xs)) ≡ w
    → (length new ≡ 8) × (max (greatest new) (greatest (drop (8 * (i + 1)) xs)) ≡ w)
greatest_more i xs lanes new block w within long is_block e so_far =
    let wide : length lanes ≡ length block = long ∙ sym (ap length is_block ∙ length-chunk (8 * i) 8 xs within) in
    let further : greatest (drop (8 * i + 8) xs) ≡ greatest (drop (8 * (i + 1)) xs) = ap (λ m. greatest (drop m xs)) (omega arith) in (
      ap length e ∙ length-zip2 max lanes block wide ∙ long,
      omega (arith, so_far, further, greatest-drop (8 * i) 8 xs, ap greatest is_block, ap greatest e, greatest-zip2 lanes block wide),
    )
