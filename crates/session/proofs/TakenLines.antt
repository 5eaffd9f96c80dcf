-- The lines that were taken of a text, and the bytes that they are.
use Rattle.std.proofs.Common.{◌≡◌, ℕ, ◌+◌, Bool, true, false, ◌==◌, List, [], ◌∷◌, ◌++◌, length, take, refl, sym, ap, ◌∙◌}
use Rattle.std.proofs.Common.{append_assoc, arith, if◌then◌else◌}
use Rattle.std.proofs.lemmas.List.{length-append, take_at}
use Rattle.records.specs.wire.Lines.{Cut, IsFirstLine, cut, lengthened}
use Rattle.records.proofs.wire.CutLines.{cut-first_line}
use Rattle.session.specs.Replays.{AreFirstLines}

-- lines, and then others
abbrev joined : Cut → Cut → Cut
joined c d = record { lines = c.lines ++ d.lines; tail = d.tail }

lengthened-joined : (b : ℕ) (lines : List (List ℕ)) (tail : List ℕ) (d : Cut) → (lengthened b lines tail).tail ≡ []
    → lengthened b (lines ++ d.lines) d.tail ≡ joined (lengthened b lines tail) d
lengthened-joined b [] tail d h = absurd (let z : ⊥ = cc in z)
lengthened-joined b (l ∷ ls) tail d h = refl

lengthened-whole : (b : ℕ) (lines : List (List ℕ)) (tail : List ℕ) → (lengthened b lines tail).tail ≡ [] → tail ≡ []
lengthened-whole b [] tail h = absurd (let z : ⊥ = cc in z)
lengthened-whole b (l ∷ ls) tail h = h

-- whole lines, and a text after them
cut-append : (a b : List ℕ) → (cut a).tail ≡ [] → cut (a ++ b) ≡ joined (cut a) (cut b)
cut-append [] b h = refl
cut-append (x ∷ a) b h = by (cut-append a b) (x == 10) h
  where
    ended : Bool → Cut → Cut
    ended t c = if t then record { lines = [] ∷ c.lines; tail = c.tail } else lengthened x c.lines c.tail

    by : ((cut a).tail ≡ [] → cut (a ++ b) ≡ joined (cut a) (cut b)) → (t : Bool) → (ended t (cut a)).tail ≡ []
        → ended t (cut (a ++ b)) ≡ joined (ended t (cut a)) (cut b)
    by rest true e = ap (ended true) (rest e)
    by rest false e =
        ap (ended false) (rest (lengthened-whole x (cut a).lines (cut a).tail e))
        ∙ lengthened-joined x (cut a).lines (cut a).tail (cut b) e

-- the first n lines of the text were taken, which have this many bytes, and the rest not yet
pub record HasTaken (text rest : List ℕ) (n bytes : ℕ) : Type 0 where
  pub gone : List ℕ
  pub split : gone ++ rest ≡ text
  pub gone_is : length gone ≡ bytes
  pub whole : (cut gone).tail ≡ []
  pub count : length (cut gone).lines ≡ n

pub taken-none : (text : List ℕ) → HasTaken text text 0 0
taken-none text = record { gone = []; split = refl; gone_is = refl; whole = refl; count = refl }

-- a line of its own
one : (line : List ℕ) (rest left : List ℕ) → IsFirstLine rest line left → cut (line ++ 10 ∷ []) ≡ record { lines = line ∷ []; tail = [] }
one line rest left first = cut-first_line (line ++ 10 ∷ []) line [] (record { split = refl; whole = first.whole })

module _ (text rest line left : List ℕ) (n bytes : ℕ) (h : HasTaken text rest n bytes) (first : IsFirstLine rest line left) where
  more_lines : cut (h.gone ++ (line ++ 10 ∷ [])) ≡ record { lines = (cut h.gone).lines ++ line ∷ []; tail = [] }
  more_lines = cut-append h.gone (line ++ 10 ∷ []) h.whole ∙ ap (joined (cut h.gone)) (one line rest left first)

  pub left_behind : length text ≡ bytes + (length line + 1) + length left
  left_behind =
      let whole = ap length h.split in
      let two = length-append h.gone rest in
      let split = ap length first.split in
      let parts = length-append line (10 ∷ left) in
      omega (arith, whole, two, split, parts, h.gone_is)

  pub taken-more : (next more : ℕ) → next ≡ n + 1 → more ≡ bytes + (length line + 1) → HasTaken text left next more
  taken-more next more counted is = record {
    gone = h.gone ++ (line ++ 10 ∷ []);
    split = append_assoc h.gone (line ++ 10 ∷ []) left
        ∙ (ap (λ (l : List ℕ). h.gone ++ l) (append_assoc line (10 ∷ []) left ∙ sym first.split) ∙ h.split);
    gone_is = (let a = length-append h.gone (line ++ 10 ∷ []) in let b = length-append line (10 ∷ []) in
        omega (arith, a, b, h.gone_is, is));
    whole = ap (λ (c : Cut). c.tail) more_lines;
    count = (let a = ap (λ (c : Cut). length c.lines) more_lines in let b = length-append (cut h.gone).lines (line ∷ []) in
        omega (arith, a, b, h.count, counted));
  }

-- the lines that were taken
first_lines : (text rest : List ℕ) (n bytes : ℕ) (h : HasTaken text rest n bytes) → take n (cut text).lines ≡ (cut h.gone).lines
first_lines text rest n bytes h =
    ap (λ (t : List ℕ). take n (cut t).lines) (sym h.split)
    ∙ ap (λ (c : Cut). take n c.lines) (cut-append h.gone rest h.whole)
    ∙ take_at (cut h.gone).lines (cut rest).lines n h.count

-- and the next one
pub taken_next : (text rest line left : List ℕ) (n bytes next more : ℕ) (h : HasTaken text rest n bytes) → IsFirstLine rest line left
    → next ≡ n + 1 → more ≡ bytes + (length line + 1) → take next (cut text).lines ≡ take n (cut text).lines ++ line ∷ []
unfolding taken-more
taken_next text rest line left n bytes next more h first counted is =
    first_lines text left next more (taken-more text rest line left n bytes h first next more counted is)
    ∙ ap (λ (c : Cut). c.lines) (more_lines text rest line left n bytes h first)
    ∙ ap (λ (ls : List (List ℕ)). ls ++ line ∷ []) (sym (first_lines text rest n bytes h))

-- this many bytes are these lines
pub taken_bytes : (text rest : List ℕ) (n bytes : ℕ) → HasTaken text rest n bytes → AreFirstLines text n bytes
taken_bytes text rest n bytes h =
    ap cut (ap (take bytes) (sym h.split) ∙ take_at h.gone rest bytes h.gone_is)
    ∙ (λ i. record { lines = sym (first_lines text rest n bytes h) i; tail = h.whole i })

pub taken_left : (text rest : List ℕ) (n bytes : ℕ) → HasTaken text rest n bytes → length text ≡ bytes + length rest
taken_left text rest n bytes h =
    let whole = ap length h.split in let two = length-append h.gone rest in omega (arith, whole, two, h.gone_is)
