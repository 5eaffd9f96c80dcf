-- A text up to its last line feed, and what is after it.
use Rattle.std.proofs.Common.{◌≡◌, ◌≢◌, ◌==◌, ◌+◌, ℕ, Bool, true, false, List, [], ◌∷◌, ◌++◌, length, take, drop, refl}
use Rattle.std.proofs.Common.{sym, ap, ◌∙◌, add-one, arith}
use Rattle.std.proofs.Math.ListN.{get_or}
use Rattle.std.proofs.Math.Seq.{take-suc}
use Rattle.std.proofs.lemmas.Bool.{eqb-true}
use Rattle.std.proofs.lemmas.List.{drop_more, get_or-drop, length-drop, take-append-drop}
use Rattle.std.proofs.lemmas.List.Elements.{All-from_get_or, All-nil}
use Rattle.memchr.specs.Find.{Passes, Nowhere, NoneAfter, is_byte}
use Rattle.records.specs.wire.Lines.{Cut, HasNoEnd, cut}
use Rattle.records.proofs.wire.CutLines.{cut-no_end}
use Rattle.store.specs.WholeLines.{AreWhole}

-- the lines of a text that ends in a line feed are the same whatever follows it without one
record Lined (xs : List ℕ) : Type 0 where
  first : List ℕ
  more : List (List ℕ)
  is : (ys : List ℕ) → HasNoEnd ys → cut (xs ++ 10 ∷ ys) ≡ record { lines = first ∷ more; tail = ys }

lined_more : (b : ℕ) (xs : List ℕ) → Lined xs → (test : Bool) → (b == 10) ≡ test → Lined (b ∷ xs)
lined_more b xs h true e = record { first = []; more = h.first ∷ h.more; is = λ ys none. rw (e, h.is ys none) refl }
lined_more b xs h false e = record { first = b ∷ h.first; more = h.more; is = λ ys none. rw (e, h.is ys none) refl }

lined : (xs : List ℕ) → Lined xs
lined [] = record { first = []; more = []; is = λ ys none. rw (cut-no_end ys none) refl }
lined (b ∷ xs) = lined_more b xs (lined xs) (b == 10) refl

-- there is no line feed from index i on
none_behind : (text : List ℕ) (i : ℕ) → Nowhere (Passes (is_byte 10) text) i (length text) → HasNoEnd (drop i text)
none_behind text i none = All-from_get_or (λ b. b ≢ 10) (drop i text) 0
    (λ k within e.
    let long = length-drop i text in
    none (i + k) (omega arith) (omega (arith, within, long))
    (ap (λ x. x == 10) (sym (get_or-drop i text k 0) ∙ e)))

-- there is no line feed
pub whole-none : (text : List ℕ) → Nowhere (Passes (is_byte 10) text) 0 (length text) → AreWhole 0 text
whole-none text none =
    let all = cut-no_end text (none_behind text 0 none) in
    record {
      within = omega arith;
      lines = ap (λ (c : Cut). record { lines = c.lines; tail = [] }) (sym all);
      tail = ap (λ (c : Cut). c.tail) (sym all);
    }

-- the last line feed is at this index
pub whole-upto : (text : List ℕ) (last : ℕ) → NoneAfter (Passes (is_byte 10) text) 0 (length text) last → Passes (is_byte 10) text last
    → AreWhole (last + 1) text
whole-upto text last after at =
    let h = lined (take last text) in
    let rest = drop (last + 1) text in
    let none : HasNoEnd rest = none_behind text (last + 1) after.after in
    let split : take last text ++ 10 ∷ rest ≡ text =
    ap (λ (ys : List ℕ). take last text ++ ys)
    (sym (drop_more text last 0 after.high ∙ ap (λ b. b ∷ rest) (eqb-true (get_or text last 0) 10 at)))
    ∙ take-append-drop last text in
    let all : cut text ≡ record { lines = h.first ∷ h.more; tail = rest } = ap cut (sym split) ∙ h.is rest none in
    let byte : get_or text last 0 ≡ 10 = eqb-true (get_or text last 0) 10 at in
    let front : take (last + 1) text ≡ take last text ++ 10 ∷ [] =
    ap (λ n. take n text) (add-one last) ∙ take-suc text last 0 after.high ∙ ap (λ b. take last text ++ b ∷ []) byte in
    record {
      within = omega (arith, after.high);
      lines = ap cut front ∙ h.is [] (All-nil (λ b. b ≢ 10)) ∙ ap (λ (c : Cut). record { lines = c.lines; tail = [] }) (sym all);
      tail = ap (λ (c : Cut). c.tail) (sym all);
    }
