-- The exchanges that add an entry, or name the queue, preserve the rule.
use Rattle.std.proofs.Common.{◌≡◌, ℕ, ◌+◌, ◌<◌, ◌==◌, Bool, true, false, List, [], ◌∷◌, ◌++◌, length, refl, ap, ◌∙◌, sym, subst, arith, inl}
use Rattle.std.proofs.Common.{length-append, None}
use Rattle.std.proofs.lemmas.List.{append-nil}
use Rattle.std.proofs.lemmas.Bool.Decides.{nat_tests}
use mathlib.Core.List.{IsPrefix}
use prog.Atomic.{either}
use Rattle.logbook.specs.Pages.{Cell, Goes, Moves, cell, keeps, no_nib, step}
use Rattle.document.specs.operation.declared.command.Entry.{Entry as TheEntry}
use Rattle.atomic_table.specs.Seated.{TableId}
use Rattle.published.specs.declared.written.Written.{Written}
use Rattle.published.specs.declared.written.Written.TheVariants.{Entry, Queue}
use Rattle.published.specs.Rules.{Adds, CountsWritten, Names, entries_in, queues_in}
use Rattle.published.proofs.Prefixes.{entries-append, entries_prefix, prefix_whole, queues-append}

abbrev pub shown : List Written → List Written
shown log = []

abbrev pub moved : List Written → List Written → ℕ → Type 0
moved xs ys n = Unit {0}

pub adds_goes : (log v : List Written) (e : TheEntry) (old : ℕ) → length (entries_in v) ≡ old → IsPrefix v log
    → (b : Bool) → (length (entries_in log) == old) ≡ b
    → Goes CountsWritten shown moved 0 (v, (no_nib, None)) (λ n. either (n == old) (old + 1) n)
    (Adds (step 0 old (old + 1) (Entry e)) (v, (no_nib, None)))
    ((length (entries_in log), true) ∷ (length (queues_in log), true) ∷ []) log
adds_goes log v e old len pre true is =
    let here : length (entries_in log) ≡ old = grind (arith, nat_tests) in
    let same : entries_in v ≡ entries_in log = prefix_whole (entries_in v) (entries_in log) (entries_prefix v log pre) (omega arith) in
    let more : entries_in (log ++ Entry e ∷ []) ≡ entries_in log ++ e ∷ [] = entries-append log (Entry e ∷ []) in
    let n : either (length (entries_in log) == old) (old + 1) (length (entries_in log))
    ≡ length (entries_in (log ++ Entry e ∷ [])) = rw is (omega (arith, ap length more, length-append (entries_in log) (e ∷ []))) in
    let m : length (queues_in log)
    ≡ length (queues_in (log ++ Entry e ∷ [])) = ap length (sym (append-nil (queues_in log)))
    ∙ sym (ap length (queues-append log (Entry e ∷ []))) in (
      keeps,
      Entry e ∷ [],
      None,
      tt,
      record { words = λ i. (n i, true) ∷ (m i, true) ∷ [] },
      inl (refl, refl),
      rw is (more ∙ ap (λ w. w ++ e ∷ []) (sym same)),
    )
adds_goes log v e old len pre false is =
    let all : log ++ [] ≡ log = append-nil log in
    let n : either (length (entries_in log) == old) (old + 1) (length (entries_in log)) ≡ length (entries_in (log ++ [])) =
    rw is (ap (λ (l : List Written). length (entries_in l)) (sym all)) in
    let m : length (queues_in log) ≡ length (queues_in (log ++ [])) = ap (λ (l : List Written). length (queues_in l)) (sym all) in (
      keeps,
      [],
      None,
      tt,
      record { words = λ i. (n i, true) ∷ (m i, true) ∷ [] },
      inl (refl, refl),
      rw is (ap (λ (l : List Written). length (entries_in l)) all),
    )

-- whatever the book is, the exchange adds the entry to all that was seen, or finds that the history is longer
pub adds_moves : (v : List Written) (e : TheEntry) (old : ℕ) → length (entries_in v) ≡ old
    → Moves CountsWritten shown moved 0 (v, (no_nib, None)) (λ n. either (n == old) (old + 1) n)
    (Adds (step 0 old (old + 1) (Entry e)) (v, (no_nib, None)))
adds_moves v e old len cs log kept pre away =
    let P : List Cell
    → Type 0 = λ c. (0 < length c) × ((cell c 0).1 ≡ true)
    × Goes CountsWritten shown moved 0 (v, (no_nib, None)) (λ n. either (n == old) (old + 1) n)
    (Adds (step 0 old (old + 1) (Entry e)) (v, (no_nib, None))) c log in
    subst P (sym kept.words) (omega arith, refl, adds_goes log v e old len pre (length (entries_in log) == old) refl)

none_named : (log : List Written) → length (queues_in log) ≡ 0 → queues_in log ≡ []
none_named log e = by (queues_in log) e
  where
    by : {A : Type 0} (xs : List A) → length xs ≡ 0 → xs ≡ []
    by [] e = refl
    by (x ∷ xs) e = absurd (omega arith)

names_goes : (log v : List Written) (q : TableId) (b : Bool) → (length (queues_in log) == 0) ≡ b
    → Goes CountsWritten shown moved 1 (v, (no_nib, None)) (λ n. either (n == 0) 1 n)
    (Names (step 1 0 1 (Queue q)) (v, (no_nib, None)))
    ((length (entries_in log), true) ∷ (length (queues_in log), true) ∷ []) log
names_goes log v q true is =
    let none : queues_in log ≡ [] = none_named log (grind (arith, nat_tests)) in
    let now : queues_in (log ++ Queue q ∷ []) ≡ q ∷ [] = queues-append log (Queue q ∷ []) ∙ ap (λ w. w ++ q ∷ []) none in
    let n : length (entries_in log)
    ≡ length (entries_in (log ++ Queue q ∷ [])) = ap length (sym (append-nil (entries_in log)))
    ∙ sym (ap length (entries-append log (Queue q ∷ []))) in
    let m : either (length (queues_in log) == 0) 1 (length (queues_in log)) ≡ length (queues_in (log ++ Queue q ∷ [])) =
    rw is (sym (ap length now)) in (
      keeps,
      Queue q ∷ [],
      None,
      tt,
      record { words = λ i. (n i, true) ∷ (m i, true) ∷ [] },
      inl (refl, refl),
      rw is now,
    )
names_goes log v q false is =
    let all : log ++ [] ≡ log = append-nil log in
    let n : length (entries_in log) ≡ length (entries_in (log ++ [])) = ap (λ (l : List Written). length (entries_in l)) (sym all) in
    let m : either (length (queues_in log) == 0) 1 (length (queues_in log)) ≡ length (queues_in (log ++ [])) =
    rw is (ap (λ (l : List Written). length (queues_in l)) (sym all)) in (
      keeps,
      [],
      None,
      tt,
      record { words = λ i. (n i, true) ∷ (m i, true) ∷ [] },
      inl (refl, refl),
      rw is tt,
    )

-- whatever the book is, the exchange names the first queue, or finds that one is named
pub names_moves : (v : List Written) (q : TableId)
    → Moves CountsWritten shown moved 1 (v, (no_nib, None)) (λ n. either (n == 0) 1 n)
    (Names (step 1 0 1 (Queue q)) (v, (no_nib, None)))
names_moves v q cs log kept pre away =
    let P : List Cell
    → Type 0 = λ c. (1 < length c) × ((cell c 1).1 ≡ true)
    × Goes CountsWritten shown moved 1 (v, (no_nib, None)) (λ n. either (n == 0) 1 n)
    (Names (step 1 0 1 (Queue q)) (v, (no_nib, None))) c log in
    subst P (sym kept.words) (omega arith, refl, names_goes log v q (length (queues_in log) == 0) refl)
