-- Columns of counters compared index by index, and lists of bits packed into words.
use Rattle.std.specs.Prelude.{ℕ, ◌*◌, ◌/◌, ◌%◌, max, Bool, ◌==◌, nat_lt, List, [], ◌∷◌, length, map, get_or}
use Rattle.std.specs.List.{range_with_len, count_by}
use Rattle.std.specs.Int.{bit_at, div_ceil}
use Rattle.std.specs.Simd.Lanes.{zip2, chunk, mask_l}

-- the greatest number of a list, 0 for the empty one
abbrev pub greatest : List ℕ → ℕ
greatest [] = 0
greatest (c ∷ cs) = max c (greatest cs)

-- for each index, whether the counter is above the bound
abbrev pub over : List ℕ → List ℕ → List Bool
over counters bounds = zip2 nat_lt bounds counters

-- how many bits are true
abbrev pub count_true : List Bool → ℕ
count_true bits = count_by (λ bit. bit) bits

-- the 64 bits from 64 * w on as one number, the first of them lowest; those past the end are 0
abbrev pub word_at : List Bool → ℕ → ℕ
word_at bits w = mask_l (chunk (64 * w) 64 bits)

-- the bits in words of 64, as few words as hold them
abbrev pub packed : List Bool → List ℕ
packed bits = map (word_at bits) (range_with_len 0 (div_ceil (length bits) 64))

-- whether bit i of a list of words is 1, false past their end
abbrev pub is_set : List ℕ → ℕ → Bool
is_set words i = bit_at (get_or words (i / 64) 0) (i % 64) == 1
