-- Walks over blocks.
use Rattle.std.proofs.Common.{◌≡◌, refl, sym, ap, ◌∙◌, subst, ℕ, zero, suc, ◌+◌, ◌-◌, ◌<◌, ◌≤◌, Bool, true, false, true≢false, cond, ◌||◌}
use Rattle.std.proofs.Common.{List, [], ◌∷◌, ◌++◌, length, drop, take, Option, Some, None, is_some, slice_get, arith, append_assoc}
use Rattle.std.specs.FinMap.{find}
use Rattle.std.specs.FinMap.Entries.{is_some-find}
use Rattle.std.specs.List.{items_where_true}
use Rattle.std.proofs.lemmas.List.{append-nil}
use Rattle.std.proofs.lemmas.Option.{slice_get_within}
use Rattle.std.proofs.Math.Seq.{drop-cons}
use Rattle.std.proofs.lemmas.Option.{get_or_from_slice_get}
use Rattle.semantics.specs.Ids.{OpId, id_cmp, is_same_id}
use Rattle.semantics.specs.Context.{insert_after, skip, has_item}
use Rattle.semantics.proofs.Orders.{id_itself}
use Rattle.columns.specs.Blocks.{AreHomes, GoesIn, IsBehind, IsFirstSmaller, ListBlock, StandsAt, items_at, items_before, items_from}
use Rattle.columns.specs.Blocks.{joined}
use Rattle.columns.specs.Blocks.{joined_shown}
use Rattle.columns.proofs.InBlock.{has_item-append, taken, dropped}
use Rattle.columns.proofs.Runs.{before_end, before_first, before_in, before_next, from_end, from_first, from_in, from_past, items_here}
use Rattle.columns.proofs.Runs.{split_at}

-- Where a new item comes in, it came to another position.
module _ (runs : List ListBlock) (a : OpId) (from_block from_index : ℕ) where
  pub record Came (block index : ℕ) : Type 0 where
    pub within : block < length runs → index ≤ length (items_at runs block)
    pub same : items_before runs from_block from_index ++ skip a (items_from runs from_block from_index)
        ≡ items_before runs block index ++ skip a (items_from runs block index)

  -- as the block has it
  module _ (k i : ℕ) (r : ListBlock) (is : slice_get runs k ≡ Some r) (came : Came k i) where
    in_block : items_before runs from_block from_index ++ skip a (items_from runs from_block from_index)
        ≡ items_before runs k 0 ++ (take i r.items ++ skip a (drop i r.items ++ items_from runs (k + 1) 0))
    in_block =
        came.same
        ∙ (λ t. before_in runs k r is i t ++ skip a (from_in runs k r is i t))
        ∙ append_assoc (items_before runs k 0) (take i r.items) (skip a (drop i r.items ++ items_from runs (k + 1) 0))

    pub come_on : IsFirstSmaller a r.items i None → Came (k + 1) 0
    come_on passes = record {
      within = λ inside. omega arith;
      same = in_block
          ∙ ap (λ xs. items_before runs k 0 ++ xs) (passes (items_from runs (k + 1) 0))
          ∙ sym (append_assoc (items_before runs k 0) r.items (skip a (items_from runs (k + 1) 0)))
          ∙ ap (λ xs. xs ++ skip a (items_from runs (k + 1) 0)) (sym (before_next runs k r is));
    }

    pub come_in : (j : ℕ) → IsFirstSmaller a r.items i (Some j) → GoesIn runs a from_block from_index k j
    come_in j stops = record {
      inside = slice_get_within runs k r is;
      within = let here = items_here runs k r is in let lt = stops.0 in subst (λ xs. j ≤ length xs) (sym here) (omega (arith, lt));
      same = in_block
          ∙ ap (λ xs. items_before runs k 0 ++ xs) (stops.1 (items_from runs (k + 1) 0))
          ∙ sym (append_assoc (items_before runs k 0) (take j r.items) (a ∷ (drop j r.items ++ items_from runs (k + 1) 0)))
          ∙ (λ t. sym (before_in runs k r is j) t ++ (a ∷ sym (from_in runs k r is j) t));
    }

  -- past the last block, which is the end of the last block
  pub come_out : (k i l : ℕ) (r : ListBlock) → length runs ≤ k → slice_get runs l ≡ Some r → length runs ≡ l + 1 → Came k i
      → GoesIn runs a from_block from_index l (length r.items)
  come_out k i l r past is last came =
      let none : items_from runs l (length r.items) ≡ [] = from_past runs l r is (length r.items) (omega arith)
      ∙ from_end runs (l + 1) 0 (omega (arith, last)) in
      let all : joined runs ≡ items_before runs l (length r.items) = split_at runs l (length r.items)
      ∙ ap (λ xs. items_before runs l (length r.items) ++ xs) none ∙ append-nil (items_before runs l (length r.items)) in
      record {
        inside = omega (arith, last);
        within = subst (λ xs. length r.items ≤ length xs) (sym (items_here runs l r is)) (omega arith);
        same = came.same
            ∙ (λ t. before_end runs k i past t ++ skip a (from_end runs k i past t))
            ∙ (λ t. all t ++ (a ∷ sym none t));
      }

-- what comes in behind an item
insert_behind : (p a : OpId) (xs ys : List OpId) → has_item p xs ≡ false → insert_after (Some p) a (xs ++ (p ∷ ys)) ≡ xs ++ (p ∷ skip a ys)
insert_behind p a [] ys absent = ap (λ b. cond b (p ∷ skip a ys) (p ∷ insert_after (Some p) a ys)) (id_itself p)
insert_behind p a (x ∷ xs) ys absent = at_test (is_same_id p x) refl (insert_behind p a xs ys) absent
  where
    at_test : (b : Bool) → is_same_id p x ≡ b → (has_item p xs ≡ false → insert_after (Some p) a (xs ++ (p ∷ ys)) ≡ xs ++ (p ∷ skip a ys))
        → (b || has_item p xs) ≡ false
        → cond (is_same_id p x) (x ∷ skip a (xs ++ (p ∷ ys))) (x ∷ insert_after (Some p) a (xs ++ (p ∷ ys))) ≡ x ∷ (xs ++ (p ∷ skip a ys))
    at_test true e rest absent = absurd (true≢false absent)
    at_test false e rest absent = ap (λ b. cond b (x ∷ skip a (xs ++ (p ∷ ys))) (x ∷ insert_after (Some p) a (xs ++ (p ∷ ys)))) e
        ∙ ap (λ zs. x ∷ zs) (rest absent)

-- behind the head
pub behind_head : (runs : List ListBlock) → IsBehind runs None 0 0
behind_head runs = record {
  inserts = λ a. sym (λ t. before_first runs t ++ skip a (from_first runs t));
  within = λ inside. omega arith;
  inside = λ some. some;
}

-- behind an item
pub behind_item : (runs : List ListBlock) (p : OpId) (k i : ℕ) (r : ListBlock) → slice_get runs k ≡ Some r → StandsAt runs p k i
    → IsBehind runs (Some p) k (i + 1)
behind_item runs p k i r is at =
    let here = items_here runs k r is in
    let there : slice_get r.items i ≡ Some p = ap (λ xs. slice_get xs i) (sym here) ∙ at.there in
    let front = items_before runs k 0 ++ take i r.items in
    let rest = drop (i + 1) r.items ++ items_from runs (k + 1) 0 in
    let lacks : has_item p front ≡ false = has_item-append p (items_before runs k 0) (take i r.items)
    ∙ (λ t. at.first t || (ap (λ xs. has_item p (take i xs)) (sym here) ∙ at.first_in) t) in
    let all : joined runs ≡ front ++ (p ∷ rest) = split_at runs k i
    ∙ (λ t. before_in runs k r is i t
    ++ (from_in runs k r is i ∙ ap (λ xs. xs ++ items_from runs (k + 1) 0) (dropped r.items i p there)) t) in
    let before : items_before runs k (i + 1) ≡ front ++ (p ∷ []) =
    before_in runs k r is (i + 1) ∙ ap (λ xs. items_before runs k 0 ++ xs) (taken r.items i p there)
    ∙ sym (append_assoc (items_before runs k 0) (take i r.items) (p ∷ [])) in
    let from : items_from runs k (i + 1) ≡ rest = from_in runs k r is (i + 1) in
    record {
      inserts = λ a. ap (insert_after (Some p) a) all ∙ insert_behind p a front rest lacks ∙ sym (append_assoc front (p ∷ []) (skip a rest))
          ∙ sym (λ t. before t ++ skip a (from t));
      within = λ inside. let lt = slice_get_within r.items i p there in subst (λ xs. i + 1 ≤ length xs) (sym here) (omega (arith, lt));
      inside = λ some. slice_get_within runs k r is;
    }

-- an id without a home is no item
pub homeless : (runs : List ListBlock) (homes : List (OpId × ℕ)) (a : OpId) → AreHomes runs homes → find id_cmp a homes ≡ None
    → has_item a (joined runs) ≡ false
homeless runs homes a are none = sym (are.only a) ∙ sym (is_some-find id_cmp a homes) ∙ ap is_some none

-- the items that are shown from a block on
pub get_in : {X : Type 0} (xs ys : List X) (i : ℕ) → i < length xs → slice_get (xs ++ ys) i ≡ slice_get xs i
get_in [] ys i inside = absurd (omega (arith, inside))
get_in (x ∷ xs) ys zero inside = refl
get_in (x ∷ xs) ys (suc i) inside = get_in xs ys i (omega (arith, inside))

pub get_past : {X : Type 0} (xs ys : List X) (i : ℕ) → length xs ≤ i → slice_get (xs ++ ys) i ≡ slice_get ys (i - length xs)
get_past [] ys i past = ap (slice_get ys) (omega arith)
get_past (x ∷ xs) ys zero past = absurd (omega (arith, past))
get_past (x ∷ xs) ys (suc i) past = get_past xs ys i (omega (arith, past)) ∙ ap (slice_get ys) (omega arith)

module _ (runs : List ListBlock) (k : ℕ) (r : ListBlock) (is : slice_get runs k ≡ Some r) (left : ℕ) where
  next_run : drop k runs ≡ r ∷ drop (k + 1) runs
  next_run =
      let next : suc k ≡ k + 1 = omega arith in
      drop-cons runs k r (slice_get_within runs k r is) ∙ (λ t. get_or_from_slice_get runs k r r is t ∷ drop (next t) runs)

  pub shown_in : left < length (items_where_true r.flags r.items)
      → slice_get (joined_shown (drop k runs)) left ≡ slice_get (items_where_true r.flags r.items) left
  shown_in inside = ap (λ rs. slice_get (joined_shown rs) left) next_run
      ∙ get_in (items_where_true r.flags r.items) (joined_shown (drop (k + 1) runs)) left inside

  pub shown_past : length (items_where_true r.flags r.items) ≤ left
      → slice_get (joined_shown (drop k runs)) left
      ≡ slice_get (joined_shown (drop (k + 1) runs)) (left - length (items_where_true r.flags r.items))
  shown_past past = ap (λ rs. slice_get (joined_shown rs) left) next_run
      ∙ get_past (items_where_true r.flags r.items) (joined_shown (drop (k + 1) runs)) left past

-- an option that gives nothing
pub none_left : {X : Type 0} (o : Option X) → ((x : X) → o ≡ Some x → ⊥) → o ≡ None
none_left None h = refl
none_left (Some x) h = absurd (h x refl)

-- an item of a block whose number is that of its home
pub lacks_other : (a : OpId) (items : List OpId) → (has_item a items ≡ true → ⊥) → has_item a items ≡ false
lacks_other a items h = at_test (has_item a items) refl
  where
    at_test : (b : Bool) → has_item a items ≡ b → b ≡ false
    at_test true e = absurd (h e)
    at_test false e = refl

-- the run at which an item stands
pub record RunAt (runs : List ListBlock) (a : OpId) (k i : ℕ) : Type 0 where
  pub run : ListBlock
  pub is : slice_get runs k ≡ Some run
  pub inside : i < length run.items

pub run_at : (runs : List ListBlock) (a : OpId) (k i : ℕ) → StandsAt runs a k i → RunAt runs a k i
run_at runs a k i at = there runs k at.inside at.there
  where
    there : (runs : List ListBlock) (k : ℕ) → k < length runs → slice_get (items_at runs k) i ≡ Some a → RunAt runs a k i
    there [] k inside is = absurd (omega (arith, inside))
    there (r ∷ runs) zero inside is = record { run = r; is = refl; inside = slice_get_within r.items i a is }
    there (r ∷ runs) (suc k) inside is =
        let rest = there runs k (omega (arith, inside)) is in record { run = rest.run; is = rest.is; inside = rest.inside }
