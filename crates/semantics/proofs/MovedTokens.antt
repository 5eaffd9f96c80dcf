-- An engine has grown where a client or a reader has seen more, and where a client's cells keep what stands in them.
use Rattle.std.proofs.Common.{◌≡◌, ◌⊎◌, inl, inr, ℕ, zero, suc, ◌-◌, ◌≤◌, List, [], ◌∷◌, length, get_or, Option, Some, None, refl, sym, ap}
use Rattle.std.proofs.Common.{◌∙◌, subst, arith, slice_get, slice_set}
use Rattle.std.proofs.lemmas.Bool.{cases_eq}
use Rattle.std.proofs.lemmas.List.{length-set}
use Rattle.semantics.specs.LegalHistory.{IsAmong}
use Rattle.semantics.specs.LegalAnswer.{Submitted, Reply}
use Rattle.semantics.specs.Engine.{Engine, Client, Cell, Given, Handled}
use Rattle.semantics.specs.ReadSteps.{cell_at, seen_by}
use Rattle.semantics.specs.WorldHistory.{WasSubmitted, WasGiven, WasReplied, HasGrown}
use Rattle.semantics.proofs.SetElements.{get-set_same, get-set_other}
use Rattle.semantics.proofs.ItemsInTurn.{among_cases, among_right}
use Rattle.semantics.proofs.AmongLists.{among_left}

-- ---- one client moves

-- the client later: it has seen no less, and each cell keeps what was submitted, and its answer once that is set
pub record HasMoved (k j : Client) : Type 0 where
  pub seen : k.seen ≤ j.seen
  pub cells : (serial : ℕ) (cell : Cell) → cell_at k.cells serial ≡ Some cell
      → (later : Cell) × (cell_at j.cells serial ≡ Some later) × (later.submitted ≡ cell.submitted)
      × ((g : Given) → cell.answer ≡ Some g → later.answer ≡ Some g)

-- what a token has seen, by its client where it is one
abbrev seen_at : List ℕ → ℕ → Option Client → ℕ
seen_at readers i (Some k) = k.seen
seen_at readers i None = get_or readers i 0

-- the cell of a serial of a client, where there is one
abbrev pub cell_of : ℕ → Option Client → Option Cell
cell_of serial None = None
cell_of serial (Some k) = cell_at k.cells serial

-- the engine after client c moved, with this queue and these due items
abbrev pub with_client : Engine → List Submitted → List Handled → ℕ → Client → Engine
with_client E queue due c j = record E { queue = queue; due = due; clients = slice_set E.clients c j }

-- a due item stays, or its reply is its answer
abbrev pub IsStillReplied : Engine → Handled → Type 0
IsStillReplied F x = IsAmong x F.due ⊎ ((g : Given) × WasGiven F x.submitted.client x.submitted.serial g × (g.reply ≡ x.reply))

pub grown_by_client : (E : Engine) (queue : List Submitted) (due : List Handled) (c : ℕ) (k j : Client) → slice_get E.clients c ≡ Some k
    → HasMoved k j
    → ((x : Handled) → IsAmong x E.due → IsStillReplied (with_client E queue due c j) x) → HasGrown E (with_client E queue due c j)
grown_by_client E queue due c k j h m still = record {
  own = refl;
  members = refl;
  entries = ([], refl);
  published = omega arith;
  seen = λ t. seen_now t (cases_eq t c);
  submitted = λ d serial x w. submitted_now d serial x w (cases_eq d c);
  replied = λ d serial r w. replied_now d serial r w;
  given = λ d serial g w. given_now d serial g w (cases_eq d c);
}
  where
    -- the client that moved, and the others
    same : (t : ℕ) → t ≡ c → slice_get (slice_set E.clients c j) t ≡ Some j
    same t e = ap (slice_get (slice_set E.clients c j)) e ∙ get-set_same E.clients c k j h

    was : (t : ℕ) → t ≡ c → slice_get E.clients t ≡ Some k
    was t e = ap (slice_get E.clients) e ∙ h

    other : (t : ℕ) → (t ≡ c → ⊥) → slice_get (slice_set E.clients c j) t ≡ slice_get E.clients t
    other t n = get-set_other E.clients c t j n

    seen_now : (t : ℕ) → ((t ≡ c) ⊎ (t ≡ c → ⊥)) → seen_by E t ≤ seen_by (with_client E queue due c j) t
    seen_now t (inl e) =
        let before : seen_by E t ≡ k.seen = ap (seen_at E.readers (t - length E.clients)) (was t e) in
        let after : seen_by (with_client E queue due c j) t
        ≡ j.seen = ap (seen_at E.readers (t - length (slice_set E.clients c j))) (same t e) in
        omega (arith, before, after, m.seen)
    seen_now t (inr n) =
        let by_client : seen_by (with_client E queue due c j) t
        ≡ seen_at E.readers (t - length (slice_set E.clients c j)) (slice_get E.clients t) = ap
        (seen_at E.readers (t - length (slice_set E.clients c j))) (other t n) in
        let by_index : seen_at E.readers (t - length (slice_set E.clients c j)) (slice_get E.clients t)
        ≡ seen_by E t = ap (λ i. seen_at E.readers (t - i) (slice_get E.clients t)) (length-set E.clients c j) in
        omega (arith, by_client, by_index)

    submitted_now : (d serial : ℕ) (x : Submitted) → WasSubmitted E d serial x → ((d ≡ c) ⊎ (d ≡ c → ⊥))
        → WasSubmitted (with_client E queue due c j) d serial x
    submitted_now d serial x w (inl e) =
        let l = m.cells serial w.0 (sym (ap (cell_of serial) (was d e)) ∙ w.1) in
        (l.0, ap (cell_of serial) (same d e) ∙ l.1, l.2 ∙ w.2)
    submitted_now d serial x w (inr n) = (w.0, ap (cell_of serial) (other d n) ∙ w.1, w.2)

    given_now : (d serial : ℕ) (g : Given) → WasGiven E d serial g → ((d ≡ c) ⊎ (d ≡ c → ⊥))
        → WasGiven (with_client E queue due c j) d serial g
    given_now d serial g w (inl e) =
        let l = m.cells serial w.0 (sym (ap (cell_of serial) (was d e)) ∙ w.1) in
        (l.0, ap (cell_of serial) (same d e) ∙ l.1, l.3 g w.2)
    given_now d serial g w (inr n) = (w.0, ap (cell_of serial) (other d n) ∙ w.1, w.2)

    replied_now : (d serial : ℕ) (r : Reply) → WasReplied E d serial r → WasReplied (with_client E queue due c j) d serial r
    replied_now d serial r (inl g) = inl (g.0, given_now d serial g.0 g.1 (cases_eq d c), g.2)
    replied_now d serial r (inr x) = elim (among_cases E.due E.handled x.0 x.1) [
      | inr n ↦ inr (x.0, among_right due E.handled x.0 n, x.2, x.3, x.4)
      | inl n ↦ elim (still x.0 n) [
        | inl o ↦ inr (x.0, among_left due E.handled x.0 o, x.2, x.3, x.4)
        | inr g ↦
            (let client = subst (λ n. WasGiven (with_client E queue due c j) n x.0.submitted.serial g.0) x.2 g.1 in
            inl (g.0, subst (λ n. WasGiven (with_client E queue due c j) d n g.0) x.3 client, g.2 ∙ x.4))
      ]
    ]

-- ---- a reader sees

abbrev pub with_reader : Engine → ℕ → ℕ → Engine
with_reader E i m = record E { readers = slice_set E.readers i m }

raised : (seen : List ℕ) (i j m : ℕ) → get_or seen i 0 ≤ m → get_or seen j 0 ≤ get_or (slice_set seen i m) j 0
raised [] i j m h = omega arith
raised (n ∷ seen) zero zero m h = h
raised (n ∷ seen) zero (suc j) m h = omega arith
raised (n ∷ seen) (suc i) zero m h = omega arith
raised (n ∷ seen) (suc i) (suc j) m h = raised seen i j m h

pub grown_by_reader : (E : Engine) (i m : ℕ) → get_or E.readers i 0 ≤ m → HasGrown E (with_reader E i m)
grown_by_reader E i m h = record {
  own = refl;
  members = refl;
  entries = ([], refl);
  published = omega arith;
  seen = λ t. seen_now t (slice_get E.clients t) refl;
  submitted = λ c serial x w. w;
  replied = λ c serial r w. w;
  given = λ c serial g w. w;
}
  where
    seen_now : (t : ℕ) (o : Option Client) → slice_get E.clients t ≡ o → seen_by E t ≤ seen_by (with_reader E i m) t
    seen_now t (Some k) e =
        let before : seen_by E t ≡ k.seen = ap (seen_at E.readers (t - length E.clients)) e in
        let after : seen_by (with_reader E i m) t ≡ k.seen = ap (seen_at (slice_set E.readers i m) (t - length E.clients)) e in
        omega (arith, before, after)
    seen_now t None e =
        let before : seen_by E t ≡ get_or E.readers (t - length E.clients) 0 = ap (seen_at E.readers (t - length E.clients)) e in
        let after : seen_by (with_reader E i m) t
        ≡ get_or (slice_set E.readers i m) (t - length E.clients) 0 = ap (seen_at (slice_set E.readers i m) (t - length E.clients)) e in
        let l : get_or E.readers (t - length E.clients) 0 ≤ get_or (slice_set E.readers i m) (t - length E.clients) 0 = raised E.readers i
        (t - length E.clients) m h in
        omega (arith, before, after, l)
