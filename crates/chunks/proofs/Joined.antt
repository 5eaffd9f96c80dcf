-- The items of all chunks, where one of them changes.
use Rattle.std.proofs.Common.{◌≡◌, ℕ, zero, suc, ◌+◌, ◌<◌, ◌≤◌, List, [], ◌∷◌, ◌++◌, length, set, take, drop, refl, sym, ap}
use Rattle.std.proofs.Common.{◌∙◌}
use Rattle.std.proofs.Common.{slice_get, Some, arith, append_assoc}
use Rattle.std.specs.List.{insert}
use Rattle.std.proofs.lemmas.List.{append-nil, take-append-drop}
use Rattle.std.proofs.lemmas.List.Edits.{insert-append_left, insert-append_right}
use Rattle.std.proofs.lemmas.Option.{same_Some}
use Rattle.chunks.specs.Chunks.{Sequence, joined}
use Rattle.chunks.proofs.Positions.{before}

module _ {X : Type 0} where
  -- what stands at an index of the first of two lists, or of the second
  pub left_at : (xs ys : List X) (i : ℕ) → i < length xs → slice_get (xs ++ ys) i ≡ slice_get xs i
  left_at [] ys i inside = absurd (omega arith)
  left_at (x ∷ xs) ys zero inside = refl
  left_at (x ∷ xs) ys (suc i) inside = left_at xs ys i (omega (arith, inside))

  pub right_at : (xs ys : List X) (i : ℕ) → slice_get (xs ++ ys) (length xs + i) ≡ slice_get ys i
  right_at [] ys i = let e : 0 + i ≡ i = omega arith in ap (λ j. slice_get ys j) e
  right_at (x ∷ xs) ys i =
      let e : suc (length xs) + i ≡ suc (length xs + i) = omega arith in
      ap (λ j. slice_get (x ∷ (xs ++ ys)) j) e ∙ right_at xs ys i

  -- what stands at an index of a chunk
  pub item_at : (k : ℕ) (cs : List (Sequence X)) (c : Sequence X) (i : ℕ) → slice_get cs k ≡ Some c → i < length c.items
      → slice_get (joined cs) (before k cs + i) ≡ slice_get c.items i
  item_at k [] c i is inside = absurd (cc is)
  item_at zero (s ∷ cs) c i is inside =
      let same = ap (λ (o : Sequence X). o.items) (same_Some s c is) in
      let e : 0 + i ≡ i = omega arith in
      ap (λ j. slice_get (s.items ++ joined cs) j) e
      ∙ left_at s.items (joined cs) i (let long = ap length same in omega (arith, inside, long)) ∙ ap (λ xs. slice_get xs i) same
  item_at (suc k) (s ∷ cs) c i is inside =
      let e : length s.items + before k cs + i ≡ length s.items + (before k cs + i) = omega arith in
      ap (λ j. slice_get (s.items ++ joined cs) j) e ∙ right_at s.items (joined cs) (before k cs + i) ∙ item_at k cs c i is inside

  pub insert_right : (xs ys : List X) (i : ℕ) (x : X) → insert (xs ++ ys) (length xs + i) x ≡ xs ++ insert ys i x
  insert_right xs ys i x =
      insert-append_right xs ys (length xs) (length xs + i) x refl (omega arith)
      ∙ ap (λ j. xs ++ insert ys j x) (omega arith)

  -- an item is put into a chunk
  pub joined_put : (k : ℕ) (cs : List (Sequence X)) (c q : Sequence X) (i : ℕ) (x : X) → slice_get cs k ≡ Some c → i ≤ length c.items
      → q.items ≡ insert c.items i x → joined (set cs k q) ≡ insert (joined cs) (before k cs + i) x
  joined_put k [] c q i x is within put = absurd (cc is)
  joined_put zero (s ∷ cs) c q i x is within put =
      let same = ap (λ (o : Sequence X). o.items) (sym (same_Some s c is)) in
      let e : i ≡ 0 + i = omega arith in
      ap (λ xs. xs ++ joined cs) (put ∙ ap (λ xs. insert xs i x) same)
      ∙ sym (insert-append_left s.items (joined cs) i x (let long = ap length same in omega (arith, within, long)))
      ∙ ap (λ j. insert (s.items ++ joined cs) j x) e
  joined_put (suc k) (s ∷ cs) c q i x is within put =
      let e : length s.items + (before k cs + i) ≡ length s.items + before k cs + i = omega arith in
      ap (λ xs. s.items ++ xs) (joined_put k cs c q i x is within put)
      ∙ sym (insert_right s.items (joined cs) (before k cs + i) x)
      ∙ ap (λ j. insert (s.items ++ joined cs) j x) e

  -- a chunk has other room
  pub joined_same : (k : ℕ) (cs : List (Sequence X)) (c q : Sequence X) → slice_get cs k ≡ Some c → q.items ≡ c.items
      → joined (set cs k q) ≡ joined cs
  joined_same k [] c q is same = absurd (cc is)
  joined_same zero (s ∷ cs) c q is same = ap (λ xs. xs ++ joined cs) (same ∙ ap (λ (o : Sequence X). o.items) (sym (same_Some s c is)))
  joined_same (suc k) (s ∷ cs) c q is same = ap (λ xs. s.items ++ xs) (joined_same k cs c q is same)

  -- a chunk is cut in two
  pub joined_cut : (k at : ℕ) (cs : List (Sequence X)) (c q b : Sequence X) → slice_get cs k ≡ Some c → q.items ≡ take at c.items
      → b.items ≡ drop at c.items → joined (insert (set cs k q) (k + 1) b) ≡ joined cs
  joined_cut k at cs c q b is items back =
      let next : k + 1 ≡ suc k = omega arith in ap (λ j. joined (insert (set cs k q) j b)) next ∙ go k cs is
    where
      go : (k : ℕ) (cs : List (Sequence X)) → slice_get cs k ≡ Some c → joined (insert (set cs k q) (suc k) b) ≡ joined cs
      go k [] is = absurd (cc is)
      go zero (s ∷ cs) is =
          sym (append_assoc q.items b.items (joined cs))
          ∙ ap (λ xs. xs ++ joined cs)
          ((λ t. items t ++ back t) ∙ take-append-drop at c.items ∙ ap (λ (o : Sequence X). o.items) (sym (same_Some s c is)))
      go (suc k) (s ∷ cs) is = ap (λ xs. s.items ++ xs) (go k cs is)

  -- a chunk comes behind the others
  pub joined_push : (cs : List (Sequence X)) (c : Sequence X) → joined (cs ++ c ∷ []) ≡ joined cs ++ c.items
  joined_push [] c = append-nil c.items
  joined_push (s ∷ cs) c = ap (λ xs. s.items ++ xs) (joined_push cs c) ∙ sym (append_assoc s.items (joined cs) c.items)
