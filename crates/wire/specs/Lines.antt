-- The lines of a text, each of which ends with a line feed, and the first that is bad.
use Rattle.std.specs.Prelude.{◌≡◌, ◌≢◌, ◌==◌, ℕ, List, [], ◌∷◌, ◌++◌, All, if◌then◌else◌, Result, Ok, Err}
use Rattle.ids.specs.declared.refusal.Refusal.{Refusal}

-- the lines without their line feeds, and the bytes after the last one
pub record Cut : Type 0 where
  pub lines : List (List ℕ)
  pub tail : List ℕ

-- a byte in front of the first line
abbrev pub lengthened : ℕ → List (List ℕ) → List ℕ → Cut
lengthened b [] tail = record { lines = []; tail = b ∷ tail }
lengthened b (l ∷ ls) tail = record { lines = (b ∷ l) ∷ ls; tail = tail }

-- the text at its line feeds
abbrev pub cut : List ℕ → Cut
cut [] = record { lines = []; tail = [] }
cut (b ∷ bs) =
    if b == 10 then record { lines = [] ∷ (cut bs).lines; tail = (cut bs).tail }
    else lengthened b (cut bs).lines (cut bs).tail

-- no line ends in the text
abbrev pub HasNoEnd : List ℕ → Type 0
HasNoEnd = All (λ b. b ≢ 10)

-- the text is this line with its line feed, and then the rest
pub record IsFirstLine (text line rest : List ℕ) : Type 0 where
  pub split : text ≡ line ++ 10 ∷ rest
  pub whole : HasNoEnd line

-- ---- bad lines

-- the number of a bad line, and why it is bad
abbrev pub Bad : Type 0
Bad = ℕ × Refusal

-- what follows an answer, unless that is bad
abbrev pub unless_bad : {A B : Type 0} → (A → Result B Bad) → Result A Bad → Result B Bad
unless_bad next (Ok x) = next x
unless_bad next (Err bad) = Err bad

-- what a line of this number is
abbrev pub on_line : {A : Type 0} → ℕ → Result A Refusal → Result A Bad
on_line number (Ok x) = Ok x
on_line number (Err why) = Err (number, why)
