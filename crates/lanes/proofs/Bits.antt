-- Lists of bits as numbers, part by part, and as words.
use Rattle.std.proofs.Common.{◌≡◌, ℕ, zero, suc, ◌+◌, ◌-◌, ◌*◌, ◌/◌, ◌%◌, ◌^◌, ◌<◌, ◌≤◌, Bool, true, false, cond, eqb, ltb, List, [], ◌∷◌}
use Rattle.std.proofs.Common.{◌++◌, length, get_or, map, take, drop, refl, sym, ap, ◌∙◌, arith, pow-suc, bit_or, inl, inr, ◌⊎◌, min}
use Rattle.std.proofs.Common.{mul_comm, suc-add, subst}
use Rattle.std.specs.List.{sum_by}
use Rattle.std.specs.Int.{bit_at, div_ceil}
use Rattle.std.specs.Int.RustNames.{count_ones}
use Rattle.std.specs.Simd.Lanes.{chunk, mask_l}
use mir.Val.{bool_byte}
use lib.Bits.{or_shifted_r}
use Rattle.std.proofs.lemmas.Bool.{cases_lt}
use Rattle.std.proofs.lemmas.Nat.{shl_whole}
use Rattle.std.proofs.lemmas.Nat.Bits.{bit_at-zero}
use Rattle.std.proofs.lemmas.List.{take_min, length-take-le, length-take, length-drop, get_or_past, get_or-drop, map-id, get_or-map}
use Rattle.std.proofs.lemmas.List.{length-map}
use Rattle.std.proofs.lemmas.List.FromFn.{get_or-map-range_with_len, length-map-range_with_len}
use Rattle.std.proofs.lemmas.List.Sums.{sum_by-append, sum-map, count_by-le-length}
use Rattle.std.proofs.lemmas.Simd.{mask_l-lt, ones-mask_l, bit_mask_l, get_or-chunk, get_or-zip2, length-zip2}
use Rattle.std.proofs.lemmas.Slice.Chunks.{sum_by_chunks}
use Rattle.lanes.specs.Kernels.{over, count_true, word_at, packed, is_set}
use Rattle.lanes.proofs.Chunks.{chunk-zip2}

-- ---- parts of a list of bits

pub mask_l-append : (xs ys : List Bool) → mask_l (xs ++ ys) ≡ mask_l ys * 2 ^ length xs + mask_l xs
mask_l-append [] ys = omega arith
mask_l-append (x ∷ xs) ys = rw (pow-suc) (omega (arith, mask_l-append xs ys))

take-nil : {X : Type 0} (n : ℕ) → take {A = X} n [] ≡ []
take-nil zero = refl
take-nil (suc n) = refl

pub take_chunk : {X : Type 0} (i n : ℕ) (xs : List X) → take (i + n) xs ≡ take i xs ++ chunk i n xs
take_chunk zero n xs = ap (λ m. take m xs) (omega arith)
take_chunk (suc i) n [] = rw (suc-add) (sym (take-nil n))
take_chunk (suc i) n (x ∷ xs) = rw (suc-add) (ap (λ l. x ∷ l) (take_chunk i n xs))

byte_is : (b : Bool) → bool_byte b ≡ cond b 1 0
byte_is true = refl
byte_is false = refl

-- ---- which counters are above their bounds

pub length-over : (counters bounds : List ℕ) → length counters ≡ length bounds → length (over counters bounds) ≡ length counters
length-over counters bounds long = length-zip2 ltb bounds counters (sym long) ∙ sym long

pub over-at : (counters bounds : List ℕ) (i : ℕ) → length counters ≡ length bounds → i < length counters
    → get_or (over counters bounds) i false ≡ ltb (get_or bounds i 0) (get_or counters i 0)
over-at counters bounds i long h = get_or-zip2 ltb bounds counters i 0 0 false (omega arith) h

-- the same bit, read from the ends of both columns as a number
pub bit_over : (p i : ℕ) (counters bounds cs bs : List ℕ) (bit : ℕ) → length counters ≡ length bounds → p + i < length counters
    → cs ≡ drop p counters → bs ≡ drop p bounds → bit ≡ bool_byte (ltb (get_or bs i 0) (get_or cs i 0))
    → bit ≡ cond (get_or (over counters bounds) (p + i) false) 1 0
bit_over p i counters bounds cs bs bit long within is_cs is_bs e =
    e ∙ (λ j. bool_byte (ltb (get_or (is_bs j) i 0) (get_or (is_cs j) i 0)))
    ∙ (λ j. bool_byte (ltb (get_or-drop p bounds i 0 j) (get_or-drop p counters i 0 j)))
    ∙ byte_is _ ∙ ap (λ b. cond b 1 0) (sym (over-at counters bounds (p + i) long within))

mask_of_block : (i : ℕ) (counters bounds cs bs : List ℕ) (mask : ℕ) → cs ≡ chunk (8 * i) 8 counters → bs ≡ chunk (8 * i) 8 bounds
    → mask ≡ mask_l (over cs bs) → mask ≡ mask_l (chunk (8 * i) 8 (over counters bounds))
mask_of_block i counters bounds cs bs mask is_cs is_bs e =
    e ∙ (λ j. mask_l (over (is_cs j) (is_bs j))) ∙ ap mask_l (sym (chunk-zip2 ltb (8 * i) 8 bounds counters))

mask_of_one : (p : ℕ) (bits : List Bool) → p < length bits → mask_l (chunk p 1 bits) ≡ cond (get_or bits p false) 1 0
mask_of_one p [] h = absurd (omega arith)
mask_of_one zero (b ∷ bits) h = omega arith
mask_of_one (suc p) (b ∷ bits) h = mask_of_one p bits (omega arith)

-- ---- words

-- the bits of one more chunk are put above those before it
pub word_more : (i n : ℕ) (bits : List Bool) → i + n ≤ length bits → length bits ≤ 64
    → bit_or (mask_l (take i bits)) (mask_l (chunk i n bits) * 2 ^ i % 2 ^ 64) ≡ mask_l (take (i + n) bits)
word_more i n bits within few =
    let front = take i bits in
    let more = chunk i n bits in
    let long : length front ≡ i = length-take-le i bits (omega arith) in
    let added : length more ≡ n = length-take-le n (drop i bits) (omega (arith, length-drop i bits)) in
    let small : mask_l more < 2 ^ n = subst (λ m. mask_l more < 2 ^ m) added (mask_l-lt more) in
    let below : mask_l front < 2 ^ i = subst (λ m. mask_l front < 2 ^ m) long (mask_l-lt front) in
    ap (bit_or (mask_l front)) (shl_whole (mask_l more) n i 64 small (omega arith))
    ∙ or_shifted_r (mask_l more) i (mask_l front) below
    ∙ ap (λ m. mask_l more * 2 ^ m + mask_l front) (sym long)
    ∙ sym (mask_l-append front more)
    ∙ ap mask_l (sym (take_chunk i n bits))

-- the bits of a block of counters
pub word_block : (i : ℕ) (counters bounds cs bs : List ℕ) (word mask : ℕ) → length counters ≡ length bounds → 8 * i + 8 ≤ length counters
    → length counters ≤ 64
    → cs ≡ chunk (8 * i) 8 counters → bs ≡ chunk (8 * i) 8 bounds → mask ≡ mask_l (over cs bs)
    → word ≡ mask_l (take (8 * i) (over counters bounds))
    → bit_or word (mask * 2 ^ (8 * i) % 2 ^ 64) ≡ mask_l (take (8 * (i + 1)) (over counters bounds))
word_block i counters bounds cs bs word mask long within few is_cs is_bs e so_far =
    let bits = over counters bounds in
    let wide : length bits ≡ length counters = length-over counters bounds long in
    (λ j. bit_or (so_far j) (mask_of_block i counters bounds cs bs mask is_cs is_bs e j * 2 ^ (8 * i) % 2 ^ 64))
    ∙ word_more (8 * i) 8 bits (omega arith) (omega arith) ∙ ap (λ m. mask_l (take m bits)) (omega arith)

-- one more bit
pub word_next : (p : ℕ) (bits : List Bool) (word bit : ℕ) → p < length bits → length bits ≤ 64
    → bit ≡ cond (get_or bits p false) 1 0 → word ≡ mask_l (take p bits) → bit_or word (bit * 2 ^ p % 2 ^ 64) ≡ mask_l (take (p + 1) bits)
word_next p bits word bit within few is_bit so_far =
    (λ j. bit_or (so_far j) ((is_bit ∙ sym (mask_of_one p bits within)) j * 2 ^ p % 2 ^ 64)) ∙ word_more p 1 bits (omega arith) few

-- ---- counts

ones_of : (bits : List Bool) → count_ones (mask_l bits) ≡ count_true bits
ones_of bits = ap (λ l. count_ones (mask_l l)) (sym (map-id bits)) ∙ ones-mask_l (λ (bit : Bool). bit) bits

pub count_more : (i n : ℕ) (bits : List Bool)
    → count_true (take i bits) + count_ones (mask_l (chunk i n bits)) ≡ count_true (take (i + n) bits)
count_more i n bits =
    ap (λ m. count_true (take i bits) + m) (ones_of (chunk i n bits))
    ∙ sym (sum_by-append (λ (bit : Bool). cond {A = ℕ} bit 1 0) (take i bits) (chunk i n bits))
    ∙ ap count_true (sym (take_chunk i n bits))

pub count_true-take-le : (i : ℕ) (bits : List Bool) → count_true (take i bits) ≤ length bits
count_true-take-le i bits = omega (arith, count_by-le-length (λ (bit : Bool). bit) (take i bits), length-take i bits)

-- the count of a block of counters
pub count_block : (i : ℕ) (counters bounds cs bs : List ℕ) (count mask : ℕ) → cs ≡ chunk (8 * i) 8 counters → bs ≡ chunk (8 * i) 8 bounds
    → mask ≡ mask_l (over cs bs)
    → count ≡ count_true (take (8 * i) (over counters bounds))
    → count + count_ones mask ≡ count_true (take (8 * (i + 1)) (over counters bounds))
count_block i counters bounds cs bs count mask is_cs is_bs e so_far =
    let bits = over counters bounds in
    (λ j. so_far j + count_ones (mask_of_block i counters bounds cs bs mask is_cs is_bs e j)) ∙ count_more (8 * i) 8 bits
    ∙ ap (λ m. count_true (take m bits)) (omega arith)

one_of : (b : Bool) → cond b 1 0 ≡ count_ones (cond b 1 0)
unfolding count_ones
one_of true = refl
one_of false = refl

-- one more bit
pub count_next : (p : ℕ) (bits : List Bool) (count bit : ℕ) → p < length bits → bit ≡ cond (get_or bits p false) 1 0
    → count ≡ count_true (take p bits) → count + bit ≡ count_true (take (p + 1) bits)
count_next p bits count bit within is_bit so_far =
    (λ j. so_far j + (is_bit ∙ one_of (get_or bits p false) ∙ ap count_ones (sym (mask_of_one p bits within))) j) ∙ count_more p 1 bits

-- ---- bits in words

-- the word of the counters from 64 * w on
pub word_of_range : (w end : ℕ) (counters bounds : List ℕ) → length counters ≡ length bounds → end ≡ min (length counters) (64 * w + 64)
    → mask_l (over (take (end - 64 * w) (drop (64 * w) counters)) (take (end - 64 * w) (drop (64 * w) bounds)))
    ≡ word_at (over counters bounds) w
word_of_range w end counters bounds long e =
    let bits = over counters bounds in
    let left = drop (64 * w) bits in
    let wide : length left ≡ length counters - 64 * w = length-drop (64 * w) bits
    ∙ ap (λ n. n - 64 * w) (length-over counters bounds long) in
    ap mask_l (sym (chunk-zip2 ltb (64 * w) (end - 64 * w) bounds counters)
    ∙ ap (λ n. take n left) (omega (arith, wide)) ∙ take_min 64 left)

-- a word of a packed list
pub get_or-packed : (bits : List Bool) (w : ℕ) → w < div_ceil (length bits) 64 → get_or (packed bits) w 0 ≡ word_at bits w
get_or-packed bits w h = get_or-map-range_with_len (word_at bits) 0 (div_ceil (length bits) 64) w w 0 h (omega arith)

bit_is : (b : Bool) → eqb (cond b 1 0) 1 ≡ b
bit_is true = refl
bit_is false = refl

bit_at-word_at : (bits : List Bool) (w j : ℕ) → j < 64 → bit_at (word_at bits w) j ≡ cond (get_or bits (64 * w + j) false) 1 0
bit_at-word_at bits w j h = bit_mask_l (chunk (64 * w) 64 bits) j ∙ ap (λ b. cond b 1 0) (get_or-chunk (64 * w) 64 bits j false h)

-- a packed list has the bits that were packed
pub is_set-packed : (bits : List Bool) (i : ℕ) → is_set (packed bits) i ≡ get_or bits i false
is_set-packed bits i = by_word (cases_lt (i / 64) (div_ceil (length bits) 64))
  where
    by_word : (i / 64 < div_ceil (length bits) 64) ⊎ (div_ceil (length bits) 64 ≤ i / 64) → is_set (packed bits) i ≡ get_or bits i false
    by_word (inl h) =
        ap (λ m. eqb (bit_at m (i % 64)) 1) (get_or-packed bits (i / 64) h)
        ∙ ap (λ m. eqb m 1) (bit_at-word_at bits (i / 64) (i % 64) (omega arith))
        ∙ bit_is _ ∙ ap (λ m. get_or bits m false) (omega arith)
    by_word (inr h) =
        ap (λ m. eqb (bit_at m (i % 64)) 1)
        (get_or_past (packed bits) (i / 64) 0 (omega (arith, length-map-range_with_len (word_at bits) 0 (div_ceil (length bits) 64))))
        ∙ ap (λ m. eqb m 1) (bit_at-zero (i % 64))
        ∙ sym (get_or_past bits i false (omega arith))

-- the words have as many ones as bits are true
pub ones-packed : (bits : List Bool) → sum_by count_ones (packed bits) ≡ count_true bits
ones-packed bits =
    let ones = λ (word : ℕ). count_ones word in
    let all = div_ceil (length bits) 64 in
    sym (sum-map count_ones (packed bits))
    ∙ sum_by_chunks (λ (bit : Bool). cond {A = ℕ} bit 1 0) 64 bits (map count_ones (packed bits))
    (λ w h. get_or-map count_ones (packed bits) w 0 0 (omega (arith, length-map (packed bits) count_ones))
    ∙ ap count_ones
    (get_or-packed bits w (omega (arith, length-map (packed bits) count_ones, length-map-range_with_len (word_at bits) 0 all)))
    ∙ ones_of (chunk (64 * w) 64 bits) ∙ ap (λ m. count_true (take 64 (drop m bits))) (mul_comm 64 w))
    (omega arith)
    (length-map (packed bits) count_ones ∙ length-map-range_with_len (word_at bits) 0 all)
