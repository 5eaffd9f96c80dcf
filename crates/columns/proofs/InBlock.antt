-- Where an item goes in a block, and what its floor says.
use Rattle.std.proofs.Common.{◌≡◌, refl, sym, ap, ◌∙◌, subst, ℕ, zero, suc, ◌+◌, ◌≤◌, Bool, true, false, true≢false, cond, ◌||◌, List, []}
use Rattle.std.proofs.Common.{◌∷◌, ◌++◌, length, get_or, set, length-set, drop, take, take_all, ◌-◌, Option, Some, None, slice_get, arith}
use Rattle.std.proofs.Common.{append_assoc, length-append}
use Rattle.std.specs.Prelude.{min}
use Rattle.std.specs.List.{All, insert, items_where_true}
use Rattle.std.proofs.Math.Seq.{drop-cons, take-suc}
use Rattle.std.proofs.lemmas.Option.{get_or_from_slice_get, slice_get_within, same_Some}
use Rattle.std.proofs.lemmas.List.{drop_all, length-take, take-append-drop}
use Rattle.std.proofs.lemmas.List.Elements.{All-append, All-cons, All-drop, All-head, All-tail, All-take}
use Rattle.semantics.specs.Ids.{OpId, is_same_id, is_smaller_id}
use Rattle.semantics.specs.Context.{skip, has_item}
use Rattle.semantics.proofs.Orders.{id_itself}
use Rattle.semantics.proofs.SkipOrder.{smaller_chain}
use Rattle.std.proofs.lemmas.List.Edits.{length-insert}
use Rattle.columns.specs.Blocks.{AreGreater, IsBlock, IsFirstSmaller, IsFloor}
use Rattle.columns.proofs.Flags.{shown_append, shown_insert, shown_most, shown_set}

-- the items up to and with one
pub taken : (xs : List OpId) (i : ℕ) (x : OpId) → slice_get xs i ≡ Some x → take (i + 1) xs ≡ take i xs ++ x ∷ []
taken xs i x is =
    let next : i + 1 ≡ suc i = omega arith in
    ap (λ j. take j xs) next ∙ take-suc xs i x (slice_get_within xs i x is)
    ∙ ap (λ y. take i xs ++ y ∷ []) (get_or_from_slice_get xs i x x is)

-- the items from one on
pub dropped : (xs : List OpId) (i : ℕ) (x : OpId) → slice_get xs i ≡ Some x → drop i xs ≡ x ∷ drop (i + 1) xs
dropped xs i x is =
    let next : suc i ≡ i + 1 = omega arith in
    drop-cons xs i x (slice_get_within xs i x is) ∙ (λ t. get_or_from_slice_get xs i x x is t ∷ drop (next t) xs)

-- what stands up to one, and is searched for
pub has_item-append : (a : OpId) (xs ys : List OpId) → has_item a (xs ++ ys) ≡ (has_item a xs || has_item a ys)
has_item-append a [] ys = refl
has_item-append a (x ∷ xs) ys = ap (λ b. is_same_id a x || b) (has_item-append a xs ys)
    ∙ grouped (is_same_id a x) (has_item a xs) (has_item a ys)
  where
    grouped : (b c d : Bool) → (b || (c || d)) ≡ ((b || c) || d)
    grouped true c d = refl
    grouped false c d = refl

pub has_at : (xs : List OpId) (i : ℕ) (a : OpId) → slice_get xs i ≡ Some a → has_item a xs ≡ true
has_at [] i a is = absurd (cc is)
has_at (x ∷ xs) zero a is = ap (λ b. b || has_item a xs) (ap (is_same_id a) (same_Some x a is) ∙ id_itself a)
has_at (x ∷ xs) (suc i) a is = later (is_same_id a x) (has_at xs i a is)
  where
    later : (b : Bool) → has_item a xs ≡ true → (b || has_item a xs) ≡ true
    later true has = refl
    later false has = has

-- one more that isn't it
pub lacks_next : (a : OpId) (xs : List OpId) (i : ℕ) (x : OpId) → slice_get xs i ≡ Some x → has_item a (take i xs) ≡ false
    → is_same_id a x ≡ false → has_item a (take (i + 1) xs) ≡ false
lacks_next a xs i x is before other =
    ap (has_item a) (taken xs i x is) ∙ has_item-append a (take i xs) (x ∷ [])
    ∙ ap (λ b. b || (is_same_id a x || false)) before ∙ ap (λ b. b || false) other

-- a walk over items to which the new one comes in
module _ (a : OpId) (xs : List OpId) where
  -- it has come from one index to another
  pub Passed : ℕ → ℕ → Type 0
  Passed from i = (rest : List OpId) → take from xs ++ skip a (drop from xs ++ rest) ≡ take i xs ++ skip a (drop i xs ++ rest)

  -- past an item that isn't smaller
  pub pass_on : (from i : ℕ) (x : OpId) → slice_get xs i ≡ Some x → is_smaller_id x a ≡ false → Passed from i → Passed from (i + 1)
  unfolding Passed
  pass_on from i x is greater so rest =
      so rest
      ∙ ap (λ ys. take i xs ++ skip a (ys ++ rest)) (dropped xs i x is)
      ∙ ap (λ b. take i xs ++ cond b (a ∷ x ∷ drop (i + 1) xs ++ rest) (x ∷ skip a (drop (i + 1) xs ++ rest))) greater
      ∙ sym (append_assoc (take i xs) (x ∷ []) (skip a (drop (i + 1) xs ++ rest)))
      ∙ ap (λ ys. ys ++ skip a (drop (i + 1) xs ++ rest)) (sym (taken xs i x is))

  -- before an item that is smaller
  pub stop_here : (from i : ℕ) (x : OpId) → slice_get xs i ≡ Some x → is_smaller_id x a ≡ true → Passed from i
      → IsFirstSmaller a xs from (Some i)
  unfolding Passed
  stop_here from i x is smaller so = (
    slice_get_within xs i x is,
    λ rest. so rest
        ∙ ap (λ ys. take i xs ++ skip a (ys ++ rest)) (dropped xs i x is)
        ∙ ap (λ b. take i xs ++ cond b (a ∷ x ∷ drop (i + 1) xs ++ rest) (x ∷ skip a (drop (i + 1) xs ++ rest))) smaller
        ∙ sym (ap (λ ys. take i xs ++ (a ∷ (ys ++ rest))) (dropped xs i x is)),
  )

  -- where it begins
  pub start_here : (from : ℕ) → Passed from from
  unfolding Passed
  start_here from rest = refl

  -- past the last
  pub end_here : (from i : ℕ) → length xs ≤ i → Passed from i → IsFirstSmaller a xs from None
  unfolding Passed
  end_here from i long so rest = so rest ∙ (λ t. take_all i xs long t ++ skip a (drop_all i xs long t ++ rest))

-- past items of which none is smaller
skip_all : (a : OpId) (xs rest : List OpId) → AreGreater a xs → skip a (xs ++ rest) ≡ xs ++ skip a rest
skip_all a [] rest greater = refl
skip_all a (x ∷ xs) rest greater =
    let here : is_smaller_id x a ≡ false = All-head (λ y. is_smaller_id y a ≡ false) x xs greater in
    ap (λ b. cond b (a ∷ x ∷ xs ++ rest) (x ∷ skip a (xs ++ rest))) here
    ∙ ap (λ ys. x ∷ ys) (skip_all a xs rest (All-tail (λ y. is_smaller_id y a ≡ false) x xs greater))

-- none of the items is smaller
pub all_greater : (a : OpId) (xs : List OpId) (from : ℕ) → AreGreater a xs → IsFirstSmaller a xs from None
all_greater a xs from greater rest =
    ap (λ ys. take from xs ++ ys) (skip_all a (drop from xs) rest (All-drop (λ y. is_smaller_id y a ≡ false) from xs greater))
    ∙ sym (append_assoc (take from xs) (drop from xs) (skip a rest))
    ∙ ap (λ ys. ys ++ skip a rest) (take-append-drop from xs)

-- items above a greater id are above a smaller one
pub greater_below : (a b : OpId) (xs : List OpId) → is_smaller_id a b ≡ true → AreGreater b xs → AreGreater a xs
greater_below a b xs less greater k d inside = at_test (is_smaller_id (get_or xs k d) a) refl
  where
    at_test : (t : Bool) → is_smaller_id (get_or xs k d) a ≡ t → is_smaller_id (get_or xs k d) a ≡ false
    at_test true e = absurd (true≢false (sym (smaller_chain (get_or xs k d) a b e less) ∙ greater k d inside))
    at_test false e = e

-- an item comes in anywhere
pub floor_insert : (o : Option OpId) (xs : List OpId) (i : ℕ) (a : OpId) → IsFloor o (a ∷ xs) → IsFloor o (insert xs i a)
floor_insert None xs i a bounded = absurd (cc bounded)
floor_insert (Some least) xs i a bounded =
    let P : OpId → Type 0 = λ y. is_smaller_id y least ≡ false in
    All-append P (take i xs) (a ∷ drop i xs) (All-take P i xs (All-tail P a xs bounded))
    (All-cons P a (drop i xs) (All-head P a xs bounded) (All-drop P i xs (All-tail P a xs bounded)))

-- and behind the others
pub floor_next : (o : Option OpId) (xs : List OpId) (i : ℕ) (x : OpId) → slice_get xs i ≡ Some x → IsFloor o (x ∷ take i xs)
    → IsFloor o (take (i + 1) xs)
floor_next None xs i x is bounded = absurd (cc bounded)
floor_next (Some least) xs i x is bounded =
    let P : OpId → Type 0 = λ y. is_smaller_id y least ≡ false in
    subst (All P) (sym (taken xs i x is))
    (All-append P (take i xs) (x ∷ []) (All-tail P x (take i xs) bounded)
    (All-cons P x [] (All-head P x (take i xs) bounded) (λ k d inside. absurd (omega (arith, inside)))))

-- what a block keeps, once an item came in
pub block_put : (xs : List OpId) (bs : List Bool) (shown : ℕ) (floor lowered : Option OpId) (i : ℕ) (a : OpId) → i ≤ length xs
    → IsBlock xs bs shown floor → IsFloor lowered (a ∷ xs)
    → IsBlock (insert xs i a) (insert bs i false) shown lowered
block_put xs bs shown floor lowered i a within block bounded = record {
  long = length-insert bs i false (let long = block.long in omega (arith, long, within)) ∙ ap (λ n. n + 1) block.long
      ∙ sym (length-insert xs i a within);
  counted = block.counted ∙ ap length (sym (shown_insert bs xs i a block.long));
  bounded = floor_insert lowered xs i a bounded;
}

-- and once a flag was set
pub block_set : (xs : List OpId) (bs : List Bool) (shown : ℕ) (floor : Option OpId) (i : ℕ) (b c : Bool) → slice_get bs i ≡ Some b
    → IsBlock xs bs shown floor
    → (cond b 1 0 ≤ shown) × (shown - cond b 1 0 + cond c 1 0 ≤ length xs) × IsBlock xs (set bs i c) (shown - cond b 1 0 + cond c 1 0) floor
block_set xs bs shown floor i b c is block =
    let sum = shown_set bs xs i b c block.long is in
    let most = shown_most (set bs i c) xs in
    let counted = block.counted in
    let least : cond b 1 0 ≤ shown = at_least b is in (
      least,
      let after = after_set in omega (arith, most, after),
      record {
        long = length-set bs i c ∙ block.long;
        counted = after_set;
        bounded = block.bounded;
      },
    )
  where
    at_least : (b : Bool) → slice_get bs i ≡ Some b → cond b 1 0 ≤ shown
    at_least true is = let sum = shown_set bs xs i true false block.long is in let counted = block.counted in omega (arith, sum, counted)
    at_least false is = omega arith

    after_set : shown - cond b 1 0 + cond c 1 0 ≡ length (items_where_true (set bs i c) xs)
    after_set =
        let sum = shown_set bs xs i b c block.long is in
        let least = at_least b is in
        let counted = block.counted in
        omega (arith, sum, least, counted)

-- and once what stands from an index on was cut off
pub block_cut : (xs : List OpId) (bs : List Bool) (shown : ℕ) (floor : Option OpId) (at : ℕ) (back : ℕ) (behind lowest : Option OpId)
    → IsBlock xs bs shown floor → IsBlock (drop at xs) (drop at bs) back behind → IsFloor lowest (take at xs)
    → (back ≤ shown) × IsBlock (take at xs) (take at bs) (shown - back) lowest
block_cut xs bs shown floor at back behind lowest block rest bounded =
    let counted = block.counted in
    let others = rest.counted in
    let parts = split_shown in (
      omega (arith, counted, others, parts),
      record {
        long = same_takes;
        counted = omega (arith, counted, others, parts);
        bounded = bounded;
      },
    )
  where
    same_takes : length (take at bs) ≡ length (take at xs)
    same_takes = length-take at bs ∙ ap (λ n. min at n) block.long ∙ sym (length-take at xs)

    split_shown : length (items_where_true bs xs)
        ≡ length (items_where_true (take at bs) (take at xs)) + length (items_where_true (drop at bs) (drop at xs))
    split_shown =
        (λ t. length (items_where_true (sym (take-append-drop at bs) t) (sym (take-append-drop at xs) t)))
        ∙ ap length (shown_append (take at bs) (drop at bs) (take at xs) (drop at xs) same_takes)
        ∙ length-append (items_where_true (take at bs) (take at xs)) (items_where_true (drop at bs) (drop at xs))
