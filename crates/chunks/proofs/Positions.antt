-- Where chunks begin and end.
use Rattle.std.proofs.Common.{◌≡◌, ℕ, zero, suc, ◌+◌, ◌<◌, ◌≤◌, List, [], ◌∷◌, ◌++◌, length, get_or, set, take, drop, map, refl, sym, ap}
use Rattle.std.proofs.Common.{◌∙◌}
use Rattle.std.proofs.Common.{slice_get, Some, arith, length-append}
use Rattle.std.specs.List.{All, insert}
use Rattle.std.proofs.lemmas.Option.{same_Some}
use Rattle.chunks.specs.Chunks.{Sequence, ends_from, joined, start_of}

module _ {X : Type 0} where
  -- how many items are before a chunk
  abbrev pub before : ℕ → List (Sequence X) → ℕ
  before zero cs = 0
  before (suc k) [] = 0
  before (suc k) (c ∷ cs) = length c.items + before k cs

  pub length-ends : (a : ℕ) (cs : List (Sequence X)) → length (ends_from a cs) ≡ length cs
  length-ends a [] = refl
  length-ends a (c ∷ cs) = ap suc (length-ends (a + length c.items) cs)

  pub before_all : (cs : List (Sequence X)) → before (length cs) cs ≡ length (joined cs)
  before_all [] = refl
  before_all (c ∷ cs) = let rest = before_all cs in let both = length-append c.items (joined cs) in omega (arith, rest, both)

  pub before_most : (k : ℕ) (cs : List (Sequence X)) → before k cs ≤ length (joined cs)
  before_most zero cs = omega arith
  before_most (suc k) [] = omega arith
  before_most (suc k) (c ∷ cs) = let rest = before_most k cs in let both = length-append c.items (joined cs) in omega (arith, rest, both)

  -- a chunk ends where the next one begins
  end_is : (a k : ℕ) (cs : List (Sequence X)) (d : ℕ) → k < length cs → get_or (ends_from a cs) k d ≡ a + before (suc k) cs
  end_is a k [] d inside = absurd (omega arith)
  end_is a zero (c ∷ cs) d inside = omega arith
  end_is a (suc k) (c ∷ cs) d inside =
      let rest = end_is (a + length c.items) k cs d (omega (arith, inside)) in omega (arith, rest)

  pub end_before : (k : ℕ) (cs : List (Sequence X)) (d : ℕ) → k < length cs → get_or (ends_from 0 cs) k d ≡ before (suc k) cs
  end_before k cs d inside = let is = end_is 0 k cs d inside in omega (arith, is)

  pub start_before : (k : ℕ) (cs : List (Sequence X)) → k ≤ length cs → start_of (ends_from 0 cs) k ≡ before k cs
  start_before zero cs inside = refl
  start_before (suc k) cs inside = end_before k cs 0 (omega (arith, inside))

  -- the last chunk ends behind all items
  pub start_last : (cs : List (Sequence X)) → start_of (ends_from 0 cs) (length (ends_from 0 cs)) ≡ length (joined cs)
  start_last cs = ap (start_of (ends_from 0 cs)) (length-ends 0 cs) ∙ start_before (length cs) cs (omega arith) ∙ before_all cs

  -- the items before a chunk, and its own
  pub before_next : (k : ℕ) (cs : List (Sequence X)) (c : Sequence X) → slice_get cs k ≡ Some c
      → before (suc k) cs ≡ before k cs + length c.items
  before_next k [] c is = absurd (cc is)
  before_next zero (s ∷ cs) c is = let same = ap (λ (o : Sequence X). length o.items) (same_Some s c is) in omega (arith, same)
  before_next (suc k) (s ∷ cs) c is = let rest = before_next k cs c is in omega (arith, rest)

  -- no end is greater than the number of items
  pub ends_few : (cs : List (Sequence X)) (m : ℕ) → length (joined cs) < m → All (λ e. e < m) (ends_from 0 cs)
  ends_few cs m few = λ k d lt.
      let long = length-ends 0 cs in
      let inside : k < length cs = omega (arith, lt, long) in
      let is = end_before k cs d inside in
      let most = before_most (suc k) cs in
      omega (arith, is, most, few)

  -- the ends, where a chunk has one more item
  shifted : (a : ℕ) (cs : List (Sequence X)) → ends_from (suc a) cs ≡ map suc (ends_from a cs)
  shifted a [] = refl
  shifted a (c ∷ cs) =
      let e : suc a + length c.items ≡ suc (a + length c.items) = omega arith in
      (λ t. e t ∷ ends_from (e t) cs) ∙ ap (λ es. suc (a + length c.items) ∷ es) (shifted (a + length c.items) cs)

  ends_more_from : (a k : ℕ) (cs : List (Sequence X)) (c q : Sequence X) → slice_get cs k ≡ Some c → length q.items ≡ length c.items + 1
      → ends_from a (set cs k q) ≡ take k (ends_from a cs) ++ map suc (drop k (ends_from a cs))
  ends_more_from a k [] c q is more = absurd (cc is)
  ends_more_from a zero (s ∷ cs) c q is more =
      let same = ap (λ (o : Sequence X). length o.items) (same_Some s c is) in
      let e : a + length q.items ≡ suc (a + length s.items) = omega (arith, same, more) in
      (λ t. e t ∷ ends_from (e t) cs) ∙ ap (λ es. suc (a + length s.items) ∷ es) (shifted (a + length s.items) cs)
  ends_more_from a (suc k) (s ∷ cs) c q is more = ap (λ es. (a + length s.items) ∷ es)
      (ends_more_from (a + length s.items) k cs c q is more)

  pub ends_more : (k : ℕ) (cs : List (Sequence X)) (c q : Sequence X) → slice_get cs k ≡ Some c → length q.items ≡ length c.items + 1
      → ends_from 0 (set cs k q) ≡ take k (ends_from 0 cs) ++ map suc (drop k (ends_from 0 cs))
  ends_more k cs c q is more = ends_more_from 0 k cs c q is more

  -- the same ends, where a chunk is as long
  pub ends_same : (a k : ℕ) (cs : List (Sequence X)) (c q : Sequence X) → slice_get cs k ≡ Some c → q.items ≡ c.items
      → ends_from a (set cs k q) ≡ ends_from a cs
  ends_same a k [] c q is same = absurd (cc is)
  ends_same a zero (s ∷ cs) c q is same =
      let e : a + length q.items
      ≡ a + length s.items = ap (λ xs. a + length xs) (same ∙ ap (λ (o : Sequence X). o.items) (sym (same_Some s c is))) in
      λ t. e t ∷ ends_from (e t) cs
  ends_same a (suc k) (s ∷ cs) c q is same = ap (λ es. (a + length s.items) ∷ es) (ends_same (a + length s.items) k cs c q is same)

  -- the ends, where a chunk is cut in two
  ends_cut_from : (a k : ℕ) (cs : List (Sequence X)) (c q b : Sequence X) (e : ℕ) → slice_get cs k ≡ Some c
      → length q.items + length b.items ≡ length c.items → e ≡ a + before k cs + length q.items
      → ends_from a (insert (set cs k q) (suc k) b) ≡ insert (ends_from a cs) k e
  ends_cut_from a k [] c q b e is parts at = absurd (cc is)
  ends_cut_from a zero (s ∷ cs) c q b e is parts at =
      let same = ap (λ (o : Sequence X). length o.items) (same_Some s c is) in
      let first : a + length q.items ≡ e = omega (arith, at) in
      let second : a + length q.items + length b.items ≡ a + length s.items = omega (arith, parts, same) in
      λ t. first t ∷ (second t ∷ ends_from (second t) cs)
  ends_cut_from a (suc k) (s ∷ cs) c q b e is parts at =
      ap (λ es. (a + length s.items) ∷ es) (ends_cut_from (a + length s.items) k cs c q b e is parts (omega (arith, at)))

  pub ends_cut : (k : ℕ) (cs : List (Sequence X)) (c q b : Sequence X) (e : ℕ) → slice_get cs k ≡ Some c
      → length q.items + length b.items ≡ length c.items → e ≡ before k cs + length q.items
      → ends_from 0 (insert (set cs k q) (k + 1) b) ≡ insert (ends_from 0 cs) k e
  ends_cut k cs c q b e is parts at =
      let next : k + 1 ≡ suc k = omega arith in
      ap (λ j. ends_from 0 (insert (set cs k q) j b)) next ∙ ends_cut_from 0 k cs c q b e is parts (omega (arith, at))

  -- the ends, where a chunk comes behind the others
  ends_push_from : (a : ℕ) (cs : List (Sequence X)) (c : Sequence X)
      → ends_from a (cs ++ c ∷ []) ≡ ends_from a cs ++ (a + length (joined cs) + length c.items) ∷ []
  ends_push_from a [] c = ap (λ n. n ∷ []) (omega arith)
  ends_push_from a (s ∷ cs) c =
      let both = length-append s.items (joined cs) in
      let sum : a + length s.items + length (joined cs) + length c.items ≡ a + length (s.items ++ joined cs) + length c.items
      = omega (arith, both) in
      ap (λ es. (a + length s.items) ∷ es)
      (ends_push_from (a + length s.items) cs c ∙ ap (λ n. ends_from (a + length s.items) cs ++ n ∷ []) sum)

  pub ends_push : (cs : List (Sequence X)) (c : Sequence X)
      → ends_from 0 (cs ++ c ∷ []) ≡ ends_from 0 cs ++ (length (joined cs) + length c.items) ∷ []
  ends_push cs c =
      let e : 0 + length (joined cs) + length c.items ≡ length (joined cs) + length c.items = omega arith in
      ends_push_from 0 cs c ∙ ap (λ n. ends_from 0 cs ++ n ∷ []) e
