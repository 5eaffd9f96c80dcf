-- Lists cut into blocks of equal length, and what is left.
use Rattle.std.proofs.Common.{◌≡◌, ℕ, zero, suc, ◌*◌, ◌/◌, ◌<◌, Bool, true, false, ◌&&◌, List, [], ◌∷◌, length, get_or, take, drop, refl}
use Rattle.std.proofs.Common.{sym, ap, ◌∙◌, arith, suc-mul, zero-mul, IsTrue, ◌↔◌, eqb}
use Rattle.std.specs.List.{zip, list_all}
use Rattle.std.specs.Simd.{first_chunks}
use Rattle.std.specs.Simd.Lanes.{zip2, chunk}
use Rattle.std.specs.Cmp.Lexicographic.{pointwise}
use lib.Pointwise.{bytes_decides}
use Rattle.std.proofs.Math.Bool.{and_assoc}
use Rattle.std.proofs.lemmas.List.{drop-drop, length-drop}

-- ---- where the blocks stand

pub first_chunks-at : {X : Type 0} (n k : ℕ) (xs : List X) (i : ℕ) → i < k → get_or (first_chunks n k xs) i [] ≡ chunk (i * n) n xs
first_chunks-at n zero xs i h = absurd (omega arith)
first_chunks-at n (suc k) xs zero h = rw (zero-mul) refl
first_chunks-at n (suc k) xs (suc i) h =
    first_chunks-at n k (drop n xs) i (omega arith)
    ∙ ap (take n) (drop-drop (i * n) n xs ∙ ap (λ m. drop m xs) (omega (arith, suc-mul i n)))

-- a block that `as_chunks` gives
pub block_is : (xs : List ℕ) (blocks : List (List ℕ)) (i : ℕ) → blocks ≡ first_chunks 8 (length xs / 8) xs → i < length xs / 8
    → get_or blocks i [] ≡ chunk (8 * i) 8 xs
block_is xs blocks i front h = ap (λ l. get_or l i []) front ∙ first_chunks-at 8 (length xs / 8) xs i h
    ∙ ap (λ m. take 8 (drop m xs)) (omega arith)

-- ---- tests and operators of two lists, part by part

pub pointwise-take-drop : {X Y : Type 0} (E : X → Y → Bool) (n : ℕ) (xs : List X) (ys : List Y)
    → (pointwise E (take n xs) (take n ys) && pointwise E (drop n xs) (drop n ys)) ≡ pointwise E xs ys
pointwise-take-drop E zero xs ys = refl
pointwise-take-drop E (suc n) [] [] = refl
pointwise-take-drop E (suc n) [] (y ∷ ys) = refl
pointwise-take-drop E (suc n) (x ∷ xs) [] = refl
pointwise-take-drop E (suc n) (x ∷ xs) (y ∷ ys) = and_assoc (E x y) _ _ ∙ ap (λ b. E x y && b) (pointwise-take-drop E n xs ys)

-- all of each block, and all of what is left
pub pointwise-chunks : {X Y : Type 0} (E : X → Y → Bool) (n k : ℕ) (xs : List X) (ys : List Y)
    → (list_all (λ (p : List X × List Y). pointwise E p.0 p.1) (zip (first_chunks n k xs) (first_chunks n k ys))
    && pointwise E (drop (k * n) xs) (drop (k * n) ys))
    ≡ pointwise E xs ys
pointwise-chunks E n zero xs ys = rw (zero-mul) refl
pointwise-chunks {X} {Y} E n (suc k) xs ys =
    let further : (A : Type 0) (zs : List A)
    → drop (suc k * n) zs ≡ drop (k * n) (drop n zs) = λ A zs. ap (λ m. drop m zs) (omega (arith, suc-mul k n))
    ∙ sym (drop-drop (k * n) n zs) in
    rw (further X xs, further Y ys)
    (and_assoc (pointwise E (take n xs) (take n ys)) _ _
    ∙ ap (λ b. pointwise E (take n xs) (take n ys) && b) (pointwise-chunks E n k (drop n xs) (drop n ys))
    ∙ pointwise-take-drop E n xs ys)

pub list_all-zip : {X Y : Type 0} (E : X → Y → Bool) (xs : List X) (ys : List Y) → length xs ≡ length ys
    → list_all (λ (p : X × Y). E p.0 p.1) (zip xs ys) ≡ pointwise E xs ys
list_all-zip E [] [] h = refl
list_all-zip E [] (y ∷ ys) h = absurd (omega arith)
list_all-zip E (x ∷ xs) [] h = absurd (omega arith)
list_all-zip E (x ∷ xs) (y ∷ ys) h = ap (λ b. E x y && b) (list_all-zip E xs ys (omega arith))

-- the answers of the blocks and of the rest, as `as_chunks` gives both
pub blocks_and_rest : (E : ℕ → ℕ → Bool) (xs ys : List ℕ) (fs gs : List (List ℕ)) (us vs : List ℕ) → length xs ≡ length ys
    → fs ≡ first_chunks 8 (length xs / 8) xs → us ≡ drop (length xs / 8 * 8) xs
    → gs ≡ first_chunks 8 (length ys / 8) ys → vs ≡ drop (length ys / 8 * 8) ys
    → (list_all (λ (p : List ℕ × List ℕ). pointwise E p.0 p.1) (zip fs gs) && list_all (λ (p : ℕ × ℕ). E p.0 p.1) (zip us vs))
    ≡ pointwise E xs ys
blocks_and_rest E xs ys fs gs us vs long front back other_front other_back =
    let k = length xs / 8 in
    let as_many : length ys / 8 ≡ k = ap (λ n. n / 8) (sym long) in
    let left : length us ≡ length vs = ap length back ∙ length-drop (k * 8) xs ∙ omega arith ∙ sym (length-drop (k * 8) ys)
    ∙ ap (λ m. length (drop (m * 8) ys)) (sym as_many) ∙ sym (ap length other_back) in
    ap (λ b. list_all (λ (p : List ℕ × List ℕ). pointwise E p.0 p.1) (zip fs gs) && b) (list_all-zip E us vs left)
    ∙ (λ i. list_all (λ (p : List ℕ × List ℕ). pointwise E p.0 p.1)
    (zip (front i) ((other_front ∙ ap (λ m. first_chunks 8 m ys) as_many) i))
    && pointwise E (back i) ((other_back ∙ ap (λ m. drop (m * 8) ys) as_many) i))
    ∙ pointwise-chunks E 8 k xs ys

-- a test by `&&` of two parts
pub second_decides : (a r A B w : Bool) → a ≡ A → r ≡ B → (A && B) ≡ w → a ≡ true → r ≡ w
second_decides a r A B w first second joined h = second ∙ ap (λ t. t && B) (sym h ∙ first) ∙ joined

pub first_decides : (a A B w : Bool) → a ≡ A → (A && B) ≡ w → a ≡ false → a ≡ w
first_decides a A B w first joined h = h ∙ ap (λ t. t && B) (sym h ∙ first) ∙ joined

pub equal_from_pointwise : (r : Bool) (xs ys : List ℕ) → r ≡ pointwise eqb xs ys → IsTrue r ↔ (xs ≡ ys)
equal_from_pointwise r xs ys h = let d = bytes_decides xs ys in (λ e. d.0 (sym h ∙ e), λ e. h ∙ d.1 e)

pub take-zip2 : {X Y Z : Type 0} (f : X → Y → Z) (n : ℕ) (xs : List X) (ys : List Y)
    → take n (zip2 f xs ys) ≡ zip2 f (take n xs) (take n ys)
take-zip2 f zero xs ys = refl
take-zip2 f (suc n) [] ys = refl
take-zip2 f (suc n) (x ∷ xs) [] = refl
take-zip2 f (suc n) (x ∷ xs) (y ∷ ys) = ap (λ l. f x y ∷ l) (take-zip2 f n xs ys)

zip2-nil : {X Y Z : Type 0} (f : X → Y → Z) (xs : List X) → zip2 f xs [] ≡ []
zip2-nil f [] = refl
zip2-nil f (x ∷ xs) = refl

pub drop-zip2 : {X Y Z : Type 0} (f : X → Y → Z) (n : ℕ) (xs : List X) (ys : List Y)
    → drop n (zip2 f xs ys) ≡ zip2 f (drop n xs) (drop n ys)
drop-zip2 f zero xs ys = refl
drop-zip2 f (suc n) [] ys = refl
drop-zip2 f (suc n) (x ∷ xs) [] = sym (zip2-nil f (drop n xs))
drop-zip2 f (suc n) (x ∷ xs) (y ∷ ys) = drop-zip2 f n xs ys

pub chunk-zip2 : {X Y Z : Type 0} (f : X → Y → Z) (i n : ℕ) (xs : List X) (ys : List Y)
    → chunk i n (zip2 f xs ys) ≡ zip2 f (chunk i n xs) (chunk i n ys)
chunk-zip2 f i n xs ys = ap (take n) (drop-zip2 f i xs ys) ∙ take-zip2 f n (drop i xs) (drop i ys)
