-- The indices of blocks by their numbers.
use Rattle.std.proofs.Common.{◌≡◌, refl, sym, ap, ◌∙◌, subst, ℕ, zero, suc, ◌+◌, ◌-◌, ◌<◌, ◌≤◌, true, false, true≢false, ◌||◌, ◌⊎◌, inl}
use Rattle.std.proofs.Common.{inr}
use Rattle.std.proofs.Common.{List, [], ◌∷◌, length, get_or, set, length-set, ◌++◌, Some, None, slice_get, arith}
use Rattle.std.specs.List.{All, insert}
use Rattle.std.proofs.lemmas.Bool.{cases_lt}
use Rattle.std.proofs.lemmas.List.Edits.{length-insert, get_or-insert_at, get_or-insert_below, get_or-insert_above}
use Rattle.std.proofs.lemmas.Option.{slice_get_read, slice_get_within, get_or_from_slice_get, same_Some}
use Rattle.std.proofs.lemmas.List.{get_or_default, length_push}
use Rattle.semantics.specs.Ids.{OpId}
use Rattle.semantics.proofs.SetElements.{get-set_other, get-set_same}
use Rattle.semantics.specs.Context.{has_item}
use Rattle.columns.specs.Blocks.{AreIndexed, AreMovedOn, IsMadeAt, ListBlock, items_before, joined}
use Rattle.columns.proofs.Changed.{set_cases}
use Rattle.columns.proofs.InBlock.{has_item-append}
use Rattle.columns.proofs.Runs.{before_end}
use Rattle.columns.proofs.Walked.{lacks_other}

-- what stands at a number
pub read_at : (xs : List ℕ) (n : ℕ) → n < length xs → slice_get xs n ≡ Some (get_or xs n 0)
read_at xs n inside = slice_get_read xs _ n (get_or xs n 0) refl inside (get_or_default xs n 0 (get_or xs n 0) inside)

-- an item that none of the first blocks has doesn't stand before the next one
lacks_before : (runs : List ListBlock) (a : OpId) (k : ℕ)
    → ((j : ℕ) (s : ListBlock) → j < k → slice_get runs j ≡ Some s → has_item a s.items ≡ false)
    → has_item a (items_before runs k 0) ≡ false
lacks_before [] a k each = refl
lacks_before (r ∷ runs) a zero each = refl
lacks_before (r ∷ runs) a (suc k) each =
    has_item-append a r.items (items_before runs k 0)
    ∙ (λ t. each 0 r (omega arith) refl t || lacks_before runs a k (λ j s below at. each (suc j) s (omega (arith, below)) at) t)

module _ (runs : List ListBlock) (indices : List ℕ) (are : AreIndexed runs indices) (home : ℕ) (a : OpId)
    (homed : (block : ℕ) (r : ListBlock) → slice_get runs block ≡ Some r → has_item a r.items ≡ true → r.number ≡ home) where
  -- the block that has the item stands at its home
  has_at : (block : ℕ) (r : ListBlock) → slice_get runs block ≡ Some r → has_item a r.items ≡ true → slice_get indices home ≡ Some block
  has_at block r at has = ap (slice_get indices) (sym (homed block r at has)) ∙ are.indexed block r at

  -- no other block has it
  pub lacks_elsewhere : (k : ℕ) → slice_get indices home ≡ Some k → (j : ℕ) (s : ListBlock) → slice_get runs j ≡ Some s → (j ≡ k → ⊥)
      → has_item a s.items ≡ false
  lacks_elsewhere k here j s at other = lacks_other a s.items (λ has. other (same_Some j k (sym (has_at j s at has) ∙ here)))

  -- and so none before it
  pub lacks_in_front : (k : ℕ) → slice_get indices home ≡ Some k → has_item a (items_before runs k 0) ≡ false
  lacks_in_front k here = lacks_before runs a k
      (λ j s below at. lacks_elsewhere k here j s at (λ e. absurd (omega (arith, below, e))))

  -- where that one hasn't, none has
  pub lacks_here : (k : ℕ) (r : ListBlock) → slice_get indices home ≡ Some k → slice_get runs k ≡ Some r → has_item a r.items ≡ false
      → has_item a (joined runs) ≡ false
  lacks_here k r here is lacks =
      ap (has_item a) (sym (before_end runs (length runs) 0 (omega arith)))
      ∙ lacks_before runs a (length runs)
      (λ j s below at. lacks_other a s.items
      (λ has. let same : j ≡ k = same_Some j k (sym (has_at j s at has) ∙ here) in
      let one : s ≡ r = same_Some s r (sym at ∙ ap (slice_get runs) same ∙ is) in
      true≢false (sym has ∙ ap (λ (o : ListBlock). has_item a o.items) one ∙ lacks)))

  -- without a home it stands nowhere
  pub lacks_all : slice_get indices home ≡ None → has_item a (joined runs) ≡ false
  lacks_all none =
      ap (has_item a) (sym (before_end runs (length runs) 0 (omega arith)))
      ∙ lacks_before runs a (length runs) (λ j s below at. lacks_other a s.items (λ has. absurd (cc (sym (has_at j s at has) ∙ none))))

-- a home leads to a block
pub leads : (runs : List ListBlock) (indices : List ℕ) → AreIndexed runs indices → (home k : ℕ) → slice_get indices home ≡ Some k
    → k < length runs
leads runs indices are home k at =
    let within = are.within home k (slice_get_within indices home k at) in
    let here = get_or_from_slice_get indices home k k at in
    omega (arith, within, here)

-- a block with the same number
pub indexed_same : (runs : List ListBlock) (indices : List ℕ) (k : ℕ) (r q : ListBlock) → slice_get runs k ≡ Some r → q.number ≡ r.number
    → AreIndexed runs indices → AreIndexed (set runs k q) indices
indexed_same runs indices k r q is number are = record {
  paired = are.paired ∙ sym (length-set runs k q);
  within = subst (λ n. All (λ j. j < n) indices) (sym (length-set runs k q)) are.within;
  indexed = λ j s at. elim (set_cases runs k j r q s is at) [
    | inl same ↦ ap (slice_get indices) (ap (λ (o : ListBlock). o.number) same.1 ∙ number) ∙ are.indexed k r is ∙ ap Some (sym same.0)
    | inr other ↦ are.indexed j s other.1
  ];
}

-- the first of them were moved on already
pub record IsMovedTo (old : List ℕ) (index number : ℕ) (now : List ℕ) : Type 0 where
  pub long : length now ≡ length old
  pub kept : (i k : ℕ) → i < number → slice_get old i ≡ Some k → k < index → slice_get now i ≡ Some k
  pub moved : (i k : ℕ) → i < number → slice_get old i ≡ Some k → index ≤ k → slice_get now i ≡ Some (suc k)
  pub rest : (i : ℕ) → number ≤ i → slice_get now i ≡ slice_get old i

pub moved_none : (old : List ℕ) (index : ℕ) → IsMovedTo old index 0 old
moved_none old index = record {
  long = refl;
  kept = λ i k below. absurd (omega (arith, below));
  moved = λ i k below. absurd (omega (arith, below));
  rest = λ i past. refl;
}

module _ (old : List ℕ) (index n : ℕ) (now : List ℕ) (so_far : IsMovedTo old index n now) where
  -- one that stands before the new block stays
  pub moved_else : (x : ℕ) → slice_get now n ≡ Some x → x < index → IsMovedTo old index (n + 1) now
  moved_else x here less = record {
    long = so_far.long;
    kept = λ i k below at low. by_kept i k at low (cases_lt i n);
    moved = λ i k below at high. by_moved i k below at high (cases_lt i n);
    rest = λ i past. so_far.rest i (omega (arith, past));
  }
    where
      by_kept : (i k : ℕ) → slice_get old i ≡ Some k → k < index → (i < n) ⊎ (n ≤ i) → slice_get now i ≡ Some k
      by_kept i k at low (inl before) = so_far.kept i k before at low
      by_kept i k at low (inr past) = so_far.rest i past ∙ at

      by_moved : (i k : ℕ) → i < n + 1 → slice_get old i ≡ Some k → index ≤ k → (i < n) ⊎ (n ≤ i) → slice_get now i ≡ Some (suc k)
      by_moved i k below at high (inl before) = so_far.moved i k before at high
      by_moved i k below at high (inr past) =
          let same : n ≡ i = omega (arith, below, past) in
          let one : x ≡ k = same_Some x k (sym here ∙ ap (slice_get now) same ∙ so_far.rest i past ∙ at) in
          absurd (omega (arith, one, less, high))

  -- another one is moved on
  pub moved_then : (x : ℕ) → slice_get now n ≡ Some x → index ≤ x → IsMovedTo old index (n + 1) (set now n (x + 1))
  moved_then x here most = record {
    long = length-set now n (x + 1) ∙ so_far.long;
    kept = λ i k below at low. by_kept i k below at low (cases_lt i n);
    moved = λ i k below at high. by_moved i k below at high (cases_lt i n);
    rest = λ i past. get-set_other now n i (x + 1) (λ e. absurd (omega (arith, past, e))) ∙ so_far.rest i (omega (arith, past));
  }
    where
      by_kept : (i k : ℕ) → i < n + 1 → slice_get old i ≡ Some k → k < index → (i < n) ⊎ (n ≤ i) → slice_get (set now n (x + 1)) i ≡ Some k
      by_kept i k below at low (inl before) =
          get-set_other now n i (x + 1) (λ e. absurd (omega (arith, before, e))) ∙ so_far.kept i k before at low
      by_kept i k below at low (inr past) =
          let same : n ≡ i = omega (arith, below, past) in
          let one : x ≡ k = same_Some x k (sym here ∙ ap (slice_get now) same ∙ so_far.rest i past ∙ at) in
          absurd (omega (arith, one, most, low))

      by_moved : (i k : ℕ) → i < n + 1 → slice_get old i ≡ Some k → index ≤ k → (i < n) ⊎ (n ≤ i)
          → slice_get (set now n (x + 1)) i ≡ Some (suc k)
      by_moved i k below at high (inl before) =
          get-set_other now n i (x + 1) (λ e. absurd (omega (arith, before, e))) ∙ so_far.moved i k before at high
      by_moved i k below at high (inr past) =
          let same : n ≡ i = omega (arith, below, past) in
          let one : x ≡ k = same_Some x k (sym here ∙ ap (slice_get now) same ∙ so_far.rest i past ∙ at) in
          ap (slice_get (set now n (x + 1))) (sym same) ∙ get-set_same now n x (x + 1) here
          ∙ ap Some (let next : x + 1 ≡ suc k = omega (arith, one) in next)

  pub moved_all : length old ≤ n → AreMovedOn old index now
  moved_all past = record {
    long = so_far.long;
    kept = λ i k at low. so_far.kept i k (let inside = slice_get_within old i k at in omega (arith, past, inside)) at low;
    moved = λ i k at high. so_far.moved i k (let inside = slice_get_within old i k at in omega (arith, past, inside)) at high;
  }

-- a block came in at an index, and its number is the next one
module _ (old : List ℕ) (index : ℕ) (new : List ℕ) (made : IsMadeAt old index new) where
  in_front : (i k : ℕ) → slice_get made.moved i ≡ Some k → slice_get new i ≡ Some k
  in_front i k at = ap (λ xs. slice_get xs i) made.made ∙ go made.moved i at
    where
      go : (xs : List ℕ) (i : ℕ) → slice_get xs i ≡ Some k → slice_get (xs ++ index ∷ []) i ≡ Some k
      go [] i at = absurd (cc at)
      go (x ∷ xs) zero at = at
      go (x ∷ xs) (suc i) at = go xs i at

  made_long : length new ≡ suc (length old)
  made_long =
      let pushed = length_push made.moved index in
      let long = made.on.long in
      let e = ap length made.made in
      omega (arith, pushed, long, e)

  made_kept : (number k : ℕ) → slice_get old number ≡ Some k → k < index → slice_get new number ≡ Some k
  made_kept number k at low = in_front number k (made.on.kept number k at low)

  made_moved : (number k : ℕ) → slice_get old number ≡ Some k → index ≤ k → slice_get new number ≡ Some (suc k)
  made_moved number k at high = in_front number (suc k) (made.on.moved number k at high)

  made_last : slice_get new (length old) ≡ Some index
  made_last = (λ t. slice_get (made.made t) (sym made.on.long t)) ∙ at_end made.moved
    where
      at_end : (xs : List ℕ) → slice_get (xs ++ index ∷ []) (length xs) ≡ Some index
      at_end [] = refl
      at_end (x ∷ xs) = at_end xs

-- one more block
pub indexed_more : (runs : List ListBlock) (old new : List ℕ) (i : ℕ) (b : ListBlock) → AreIndexed runs old → b.number ≡ length runs
    → i ≤ length runs
    → IsMadeAt old i new → AreIndexed (insert runs i b) new
indexed_more runs old new i b are number inside made = record {
  paired =
      let long = made_long old i new made in let paired = are.paired in let more = length-insert runs i b inside in
      omega (arith, long, paired, more);
  within = λ n d below. by_within n d below (cases_lt n (length old));
  indexed = λ j s at. by_indexed j s at (cases_lt j i);
}
  where
    by_within : (n d : ℕ) → n < length new → (n < length old) ⊎ (length old ≤ n) → get_or new n d < length (insert runs i b)
    by_within n d below (inl before) = by_side (cases_lt (get_or old n 0) i)
      where
        there : get_or old n 0 < length runs
        there = are.within n 0 before

        by_side : (get_or old n 0 < i) ⊎ (i ≤ get_or old n 0) → get_or new n d < length (insert runs i b)
        by_side (inl low) =
            let more = length-insert runs i b inside in
            let at = get_or_from_slice_get new n _ d (made_kept old i new made n (get_or old n 0) (read_at old n before) low) in
            omega (arith, more, at, there)
        by_side (inr high) =
            let more = length-insert runs i b inside in
            let at = get_or_from_slice_get new n _ d (made_moved old i new made n (get_or old n 0) (read_at old n before) high) in
            omega (arith, more, at, there)
    by_within n d below (inr past) =
        let long = made_long old i new made in
        let more = length-insert runs i b inside in
        let last : n ≡ length old = omega (arith, below, past, long) in
        let at = get_or_from_slice_get new n i d (ap (slice_get new) last ∙ made_last old i new made) in
        omega (arith, more, at, inside)

    -- what stood at an index of the old blocks
    was : (k : ℕ) (s : ListBlock) → k < length runs → s ≡ get_or runs k s → slice_get runs k ≡ Some s
    was k s within read = slice_get_read runs _ k s refl within read

    by_indexed : (j : ℕ) (s : ListBlock) → slice_get (insert runs i b) j ≡ Some s → (j < i) ⊎ (i ≤ j) → slice_get new s.number ≡ Some j
    by_indexed j s at (inl before) =
        made_kept old i new made s.number j
        (are.indexed j s
        (was j s (omega (arith, before, inside))
        (sym (get_or_from_slice_get (insert runs i b) j s s at) ∙ get_or-insert_below runs i b s j before inside)))
        before
    by_indexed j s at (inr past) = by_side (cases_lt i j)
      where
        read : get_or (insert runs i b) j s ≡ s
        read = get_or_from_slice_get (insert runs i b) j s s at

        by_side : (i < j) ⊎ (j ≤ i) → slice_get new s.number ≡ Some j
        by_side (inl behind) =
            let next : j - 1 + 1 ≡ j = omega (arith, behind) in
            let within = slice_get_within (insert runs i b) j s at in
            let more = length-insert runs i b inside in
            made_moved old i new made s.number (j - 1)
            (are.indexed (j - 1) s
            (was (j - 1) s (omega (arith, within, more, behind))
            (sym read ∙ ap (λ k. get_or (insert runs i b) k s) (sym next)
            ∙ get_or-insert_above runs i b s (j - 1) (omega (arith, behind)) inside)))
            (omega (arith, behind))
            ∙ ap Some (let same : suc (j - 1) ≡ j = omega (arith, behind) in same)
        by_side (inr here) =
            let same : i ≡ j = omega (arith, here, past) in
            let is_b : s ≡ b = sym read ∙ ap (λ k. get_or (insert runs i b) k s) (sym same) ∙ get_or-insert_at runs i b s inside in
            ap (slice_get new) (ap (λ (o : ListBlock). o.number) is_b ∙ number ∙ sym are.paired) ∙ made_last old i new made ∙ ap Some same
