-- The lines of a text, one by one.
use Rattle.std.proofs.Common.{◌≡◌, ◌≢◌, ℕ, List, [], ◌∷◌, ◌++◌, refl}
use Rattle.std.proofs.lemmas.List.Elements.{All-head, All-tail}
use Rattle.std.proofs.lemmas.Bool.{ne_eqb}
use Rattle.wire.specs.Lines.{cut, HasNoEnd, IsFirstLine}

pub cut-no_end : (text : List ℕ) → HasNoEnd text → cut text ≡ record { lines = []; tail = text }
cut-no_end [] h = refl
cut-no_end (b ∷ bs) h =
    rw (ne_eqb b 10 (All-head (λ (x : ℕ). x ≢ 10) b bs h), cut-no_end bs (All-tail (λ (x : ℕ). x ≢ 10) b bs h)) refl

cut-after : (line rest : List ℕ) → HasNoEnd line
    → cut (line ++ 10 ∷ rest) ≡ record { lines = line ∷ (cut rest).lines; tail = (cut rest).tail }
cut-after [] rest h = refl
cut-after (b ∷ bs) rest h =
    rw (ne_eqb b 10 (All-head (λ (x : ℕ). x ≢ 10) b bs h), cut-after bs rest (All-tail (λ (x : ℕ). x ≢ 10) b bs h)) refl

pub cut-first_line : (text line rest : List ℕ) → IsFirstLine text line rest
    → cut text ≡ record { lines = line ∷ (cut rest).lines; tail = (cut rest).tail }
cut-first_line text line rest h = rw h.split (cut-after line rest h.whole)
