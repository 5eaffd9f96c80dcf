-- Lines that are all lines of a text, judging by how many bytes they have.
use Rattle.std.proofs.Common.{◌≡◌, ◌≤◌, ◌==◌, ◌+◌, ℕ, zero, suc, Bool, true, false, List, [], ◌∷◌, length, take, refl, ap, arith}
use Rattle.journal.specs.wire.Lines.{cut, lengthened}
use Rattle.journal.specs.peer_sync.Receiving.{bytes_of}

lengthened_bytes : (b : ℕ) (lines : List (List ℕ)) (tail : List ℕ)
    → bytes_of (lengthened b lines tail).lines + length (lengthened b lines tail).tail ≡ bytes_of lines + length tail + 1
lengthened_bytes b [] tail = omega arith
lengthened_bytes b (l ∷ ls) tail = omega arith

cut_more : (b : ℕ) (bs : List ℕ) (test : Bool) → (b == 10) ≡ test → bytes_of (cut bs).lines + length (cut bs).tail ≡ length bs
    → bytes_of (cut (b ∷ bs)).lines + length (cut (b ∷ bs)).tail ≡ length (b ∷ bs)
cut_more b bs true e h = rw e (omega (arith, h))
cut_more b bs false e h = rw e (let l = lengthened_bytes b (cut bs).lines (cut bs).tail in omega (arith, h, l))

cut_bytes : (text : List ℕ) → bytes_of (cut text).lines + length (cut text).tail ≡ length text
cut_bytes [] = refl
cut_bytes (b ∷ bs) = cut_more b bs (b == 10) refl (cut_bytes bs)

first_bytes : (n : ℕ) (lines : List (List ℕ)) → bytes_of (take n lines) ≤ bytes_of lines
first_bytes zero lines = omega arith
first_bytes (suc n) [] = omega arith
first_bytes (suc n) (l ∷ ls) = let h = first_bytes n ls in omega (arith, h)

all_first : (n : ℕ) (lines : List (List ℕ)) → bytes_of lines ≤ bytes_of (take n lines) → take n lines ≡ lines
all_first zero [] h = refl
all_first zero (l ∷ ls) h = absurd (omega (arith, h))
all_first (suc n) [] h = refl
all_first (suc n) (l ∷ ls) h = ap (λ (ks : List (List ℕ)). l ∷ ks) (all_first n ls (omega (arith, h)))

-- lines of as many bytes as the text has are all of its lines
pub all_taken : (n : ℕ) (text : List ℕ) → bytes_of (take n (cut text).lines) ≡ length text → take n (cut text).lines ≡ (cut text).lines
all_taken n text h = let whole = cut_bytes text in all_first n (cut text).lines (omega (arith, h, whole))
