-- Blocks of which one was changed.
use Rattle.std.proofs.Common.{◌≡◌, refl, sym, ap, ◌∙◌, subst, ℕ, zero, suc, ◌+◌, ◌-◌, ◌<◌, ◌≤◌, Bool, true, false, true≢false, cond, ◌||◌}
use Rattle.std.proofs.Common.{◌⊎◌, inl, inr, List, [], ◌∷◌, ◌++◌, length, set, length-set, drop, take, Option, Some, is_some, slice_get}
use Rattle.std.proofs.Common.{arith, append_assoc}
use Rattle.std.specs.Prelude.{min}
use Rattle.std.specs.List.{insert, items_where_true}
use Rattle.std.specs.FinMap.{find, put}
use Rattle.std.specs.FinMap.Entries.{find-put, is_some-find}
use Rattle.std.proofs.lemmas.Bool.{cases_eq, or_right, or_parts}
use Rattle.std.proofs.lemmas.List.{take-append-drop}
use Rattle.std.proofs.lemmas.List.Edits.{length-insert}
use Rattle.std.proofs.lemmas.Option.{slice_get_within, same_Some}
use Rattle.semantics.specs.Ids.{OpId, id_cmp, is_same_id}
use Rattle.semantics.proofs.Orders.{id_total, ids_from_test}
use Rattle.semantics.proofs.SetElements.{get-set_other, get-set_same}
use Rattle.semantics.specs.Context.{insert_after, has_item}
use Rattle.semantics.proofs.Taken.{turned_ids}
use Rattle.columns.specs.Rank.{has_key, keys_of}
use Rattle.columns.specs.Blocks.{AreApart, AreBlocks, AreHomed, GoesIn, IsBehind, ListBlock, items_before, items_from, joined, joined_shown}
use Rattle.columns.specs.Blocks.{room_at}
use Rattle.columns.proofs.InBlock.{has_item-append}
use Rattle.columns.proofs.Flags.{shown_insert}
use Rattle.columns.proofs.Runs.{from_first, items_here, split_at}

-- what stands at an index of a list of which one was set
pub set_cases : {X : Type 0} (xs : List X) (i j : ℕ) (x y z : X) → slice_get xs i ≡ Some x → slice_get (set xs i y) j ≡ Some z
    → ((j ≡ i) × (z ≡ y)) ⊎ ((j ≡ i → ⊥) × (slice_get xs j ≡ Some z))
set_cases xs i j x y z is at = elim (cases_eq j i) [
  | inl e ↦ inl (e, same_Some z y (sym at ∙ ap (slice_get (set xs i y)) e ∙ get-set_same xs i x y is))
  | inr other ↦ inr (other, sym (get-set_other xs i j y other) ∙ at)
]

-- room at a block
pub room_here : (runs : List ListBlock) (k : ℕ) (r : ListBlock) → slice_get runs k ≡ Some r → room_at runs k ≡ r.room
room_here [] k r is = absurd (cc is)
room_here (s ∷ runs) zero r is = ap (λ (o : ListBlock). o.room) (same_Some s r is)
room_here (s ∷ runs) (suc k) r is = room_here runs k r is

-- a block with room is there
pub run_there : (runs : List ListBlock) (k : ℕ) → k < length runs → (r : ListBlock) × (slice_get runs k ≡ Some r)
run_there [] k inside = absurd (omega (arith, inside))
run_there (r ∷ runs) zero inside = (r, refl)
run_there (r ∷ runs) (suc k) inside = run_there runs k (omega (arith, inside))

pub room_within : (runs : List ListBlock) (k : ℕ) → 0 < room_at runs k → k < length runs
room_within [] k room = absurd (omega (arith, room))
room_within (r ∷ runs) zero room = omega arith
room_within (r ∷ runs) (suc k) room = let rest = room_within runs k room in omega (arith, rest)

-- an item of a block is an item
pub has_in : (runs : List ListBlock) (k : ℕ) (r : ListBlock) (a : OpId) → slice_get runs k ≡ Some r → has_item a r.items ≡ true
    → has_item a (joined runs) ≡ true
has_in [] k r a is has = absurd (cc is)
has_in (s ∷ runs) zero r a is has = has_item-append a s.items (joined runs)
    ∙ ap (λ b. b || has_item a (joined runs)) (ap (λ (o : ListBlock). has_item a o.items) (same_Some s r is) ∙ has)
has_in (s ∷ runs) (suc k) r a is has = has_item-append a s.items (joined runs)
    ∙ or_right (has_item a s.items) (has_item a (joined runs)) (has_in runs k r a is has)

-- an id that is no item is none of a block
pub lacks_in : (runs : List ListBlock) (k : ℕ) (r : ListBlock) (a b : OpId) → slice_get runs k ≡ Some r → has_item a (joined runs) ≡ false
    → has_item b r.items ≡ true → is_same_id b a ≡ false
lacks_in runs k r a b is absent has = at_test (is_same_id b a) refl
  where
    at_test : (t : Bool) → is_same_id b a ≡ t → t ≡ false
    at_test true e = absurd
        (true≢false (sym (has_in runs k r b is has) ∙ ap (λ p. has_item p (joined runs)) (ids_from_test b a e) ∙ absent))
    at_test false e = refl

module _ (runs : List ListBlock) (k : ℕ) (r q : ListBlock) (is : slice_get runs k ≡ Some r) where
  -- the items
  pub joined_set : joined (set runs k q) ≡ items_before runs k 0 ++ (q.items ++ items_from runs (suc k) 0)
  joined_set = go runs k is
    where
      go : (runs : List ListBlock) (k : ℕ) → slice_get runs k ≡ Some r
          → joined (set runs k q) ≡ items_before runs k 0 ++ (q.items ++ items_from runs (suc k) 0)
      go [] k is = absurd (cc is)
      go (s ∷ runs) zero is = ap (λ xs. q.items ++ xs) (sym (from_first runs))
      go (s ∷ runs) (suc k) is = ap (λ xs. s.items ++ xs) (go runs k is)
          ∙ sym (append_assoc s.items (items_before runs k 0) (q.items ++ items_from runs (suc k) 0))

  pub joined_same : q.items ≡ r.items → joined (set runs k q) ≡ joined runs
  joined_same same = go runs k is
    where
      go : (runs : List ListBlock) (k : ℕ) → slice_get runs k ≡ Some r → joined (set runs k q) ≡ joined runs
      go [] k is = absurd (cc is)
      go (s ∷ runs) zero is = ap (λ xs. xs ++ joined runs) (same ∙ ap (λ (o : ListBlock). o.items) (sym (same_Some s r is)))
      go (s ∷ runs) (suc k) is = ap (λ xs. s.items ++ xs) (go runs k is)

  -- those that are shown
  pub shown_same : items_where_true q.flags q.items ≡ items_where_true r.flags r.items → joined_shown (set runs k q) ≡ joined_shown runs
  shown_same same = go runs k is
    where
      go : (runs : List ListBlock) (k : ℕ) → slice_get runs k ≡ Some r → joined_shown (set runs k q) ≡ joined_shown runs
      go [] k is = absurd (cc is)
      go (s ∷ runs) zero is = ap (λ xs. xs ++ joined_shown runs)
          (same ∙ ap (λ (o : ListBlock). items_where_true o.flags o.items) (sym (same_Some s r is)))
      go (s ∷ runs) (suc k) is = ap (λ xs. items_where_true s.flags s.items ++ xs) (go runs k is)

  pub room_same : q.room ≡ r.room → (j : ℕ) → room_at (set runs k q) j ≡ room_at runs j
  room_same same j = go runs k j is
    where
      go : (runs : List ListBlock) (k j : ℕ) → slice_get runs k ≡ Some r → room_at (set runs k q) j ≡ room_at runs j
      go [] k j is = absurd (cc is)
      go (s ∷ runs) zero zero is = same ∙ ap (λ (o : ListBlock). o.room) (sym (same_Some s r is))
      go (s ∷ runs) zero (suc j) is = refl
      go (s ∷ runs) (suc k) zero is = refl
      go (s ∷ runs) (suc k) (suc j) is = go runs k j is

  -- the same items, as a block of this room or more
  pub blocks_same : (homes : List (OpId × ℕ)) (last : ℕ) → AreBlocks runs homes last → q.number ≡ r.number → q.items ≡ r.items
      → length q.flags ≡ length q.items → r.room ≤ q.room → AreBlocks (set runs k q) homes last
  blocks_same homes last are number items long room = record {
    long = λ j s at. elim (set_cases runs k j r q s is at) [
      | inl same ↦ ap (λ (o : ListBlock). length o.flags) same.1 ∙ long ∙ ap (λ (o : ListBlock). length o.items) (sym same.1)
      | inr other ↦ are.long j s other.1
    ];
    at_home = record {
      homed = λ j s at a has. elim (set_cases runs k j r q s is at) [
        | inl same ↦ are.at_home.homed k r is a (ap (has_item a) (sym items ∙ ap (λ (o : ListBlock). o.items) (sym same.1)) ∙ has)
            ∙ ap Some (sym number ∙ ap (λ (o : ListBlock). o.number) (sym same.1))
        | inr other ↦ are.at_home.homed j s other.1 a has
      ];
      only = λ a. are.at_home.only a ∙ ap (has_item a) (sym (joined_same items));
    };
    apart = subst AreApart (sym (joined_same items)) are.apart;
    within = subst (λ n. last ≤ n - 1) (sym (length-set runs k q)) are.within;
    spare = λ j s at other. elim (set_cases runs k j r q s is at) [
      | inl same ↦ let some = are.spare k r is (λ e. other (same.0 ∙ e)) in
          subst (λ (o : ListBlock). 0 < o.room) (sym same.1) (omega (arith, some, room))
      | inr old ↦ are.spare j s old.1 other
    ];
  }

-- a key of a column with one more
has_key-put : (p id : OpId) (m : ℕ) (column : List (OpId × ℕ))
    → has_key id_cmp p (keys_of (put id_cmp id m column)) ≡ (is_same_id p id || has_key id_cmp p (keys_of column))
has_key-put p id m column =
    sym (is_some-find id_cmp p (put id_cmp id m column))
    ∙ ap is_some (find-put id_cmp id_total p id m column)
    ∙ at_test (is_same_id p id)
    ∙ ap (λ b. is_same_id p id || b) (is_some-find id_cmp p column)
  where
    at_test : (b : Bool) → is_some (cond b (Some m) (find id_cmp p column)) ≡ (b || is_some (find id_cmp p column))
    at_test true = refl
    at_test false = refl

has_item-insert : (p id : OpId) (xs ys : List OpId) → has_item p (xs ++ id ∷ ys) ≡ (is_same_id p id || has_item p (xs ++ ys))
has_item-insert p id [] ys = refl
has_item-insert p id (x ∷ xs) ys = ap (λ b. is_same_id p x || b) (has_item-insert p id xs ys)
    ∙ swapped (is_same_id p x) (is_same_id p id) (has_item p (xs ++ ys))
  where
    swapped : (a b c : Bool) → (a || (b || c)) ≡ (b || (a || c))
    swapped true true c = refl
    swapped true false c = refl
    swapped false b c = refl

-- a new item among different ones
apart_insert : (a : OpId) (xs ys : List OpId) → AreApart (xs ++ ys) → has_item a (xs ++ ys) ≡ false → AreApart (xs ++ (a ∷ ys))
apart_insert a [] ys apart absent = (absent, apart)
apart_insert a (x ∷ xs) ys apart absent =
    let both = or_parts (is_same_id a x) (has_item a (xs ++ ys)) absent in (
      has_item-insert x a xs ys ∙ (λ t. turned_ids a x both.0 t || apart.0 t),
      apart_insert a xs ys apart.1 both.1,
    )

-- where the last block has room, all have
pub roomy : (runs : List ListBlock) (homes : List (OpId × ℕ)) (last : ℕ) → AreBlocks runs homes last → 0 < room_at runs last
    → (j : ℕ) (s : ListBlock)
    → slice_get runs j ≡ Some s → 0 < s.room
roomy runs homes last are room j s at = elim (cases_eq j last) [
  | inl e ↦ subst (λ n. 0 < n) (ap (room_at runs) (sym e) ∙ room_here runs j s at) room
  | inr other ↦ are.spare j s at other
]

-- an item that came into a block
module _ (runs : List ListBlock) (k i : ℕ) (r q : ListBlock) (a : OpId) (is : slice_get runs k ≡ Some r) (within : i ≤ length r.items)
    (items : q.items ≡ insert r.items i a) (flags : q.flags ≡ insert r.flags i false) where
  pub joined_put : joined (set runs k q) ≡ items_before runs k i ++ (a ∷ items_from runs k i)
  joined_put = go runs k is
    where
      go : (runs : List ListBlock) (k : ℕ) → slice_get runs k ≡ Some r
          → joined (set runs k q) ≡ items_before runs k i ++ (a ∷ items_from runs k i)
      go [] k is = absurd (cc is)
      go (s ∷ runs) zero is =
          ap (λ xs. xs ++ joined runs) (items ∙ ap (λ (o : ListBlock). insert o.items i a) (sym (same_Some s r is)))
          ∙ append_assoc (take i s.items) (a ∷ drop i s.items) (joined runs)
      go (s ∷ runs) (suc k) is = ap (λ xs. s.items ++ xs) (go runs k is)
          ∙ sym (append_assoc s.items (items_before runs k i) (a ∷ items_from runs k i))

  module _ (homes : List (OpId × ℕ)) (last : ℕ) (are : AreBlocks runs homes last) where
    pub shown_put : joined_shown (set runs k q) ≡ joined_shown runs
    shown_put = shown_same runs k r q is ((λ t. items_where_true (flags t) (items t)) ∙ shown_insert r.flags r.items i a (are.long k r is))

    module _ (absent : has_item a (joined runs) ≡ false) (number : q.number ≡ r.number) (room : 0 < room_at runs last) where
      homed_put : AreHomed (put id_cmp a r.number homes) (set runs k q)
      homed_put j s at b has = find-put id_cmp id_total b a r.number homes ∙ by (set_cases runs k j r q s is at)
        where
          by : ((j ≡ k) × (s ≡ q)) ⊎ ((j ≡ k → ⊥) × (slice_get runs j ≡ Some s))
              → cond (is_same_id b a) (Some r.number) (find id_cmp b homes) ≡ Some s.number
          by (inl same) =
              at_test (is_same_id b a)
              (sym (has_item-insert b a (take i r.items) (drop i r.items)) ∙ ap (has_item b) (sym items)
              ∙ ap (λ (o : ListBlock). has_item b o.items) (sym same.1) ∙ has)
              ∙ ap Some (sym number ∙ ap (λ (o : ListBlock). o.number) (sym same.1))
            where
              at_test : (t : Bool) → (t || has_item b (take i r.items ++ drop i r.items)) ≡ true
                  → cond t (Some r.number) (find id_cmp b homes) ≡ Some r.number
              at_test true e = refl
              at_test false e = are.at_home.homed k r is b (ap (has_item b) (sym (take-append-drop i r.items)) ∙ e)
          by (inr other) =
              ap (λ t. cond t (Some r.number) (find id_cmp b homes)) (lacks_in runs j s a b other.1 absent has)
              ∙ are.at_home.homed j s other.1 b has

      pub blocks_put : AreBlocks (set runs k q) (put id_cmp a r.number homes) k
      blocks_put = record {
        long = λ j s at. elim (set_cases runs k j r q s is at) [
          | inl same ↦
              let old = are.long k r is in
              ap (λ (o : ListBlock). length o.flags) same.1 ∙ ap length flags ∙ length-insert r.flags i false (omega (arith, old, within))
              ∙ ap (λ n. n + 1) old
              ∙ sym (length-insert r.items i a within) ∙ ap length (sym items) ∙ ap (λ (o : ListBlock). length o.items) (sym same.1)
          | inr other ↦ are.long j s other.1
        ];
        at_home = record {
          homed = homed_put;
          only = λ b. has_key-put b a r.number homes
              ∙ ap (λ t. is_same_id b a || t) (are.at_home.only b ∙ ap (has_item b) (split_at runs k i))
              ∙ sym (has_item-insert b a (items_before runs k i) (items_from runs k i))
              ∙ ap (has_item b) (sym joined_put);
        };
        apart = subst AreApart (sym joined_put)
            (apart_insert a (items_before runs k i) (items_from runs k i) (subst AreApart (split_at runs k i) are.apart)
            (ap (has_item a) (sym (split_at runs k i)) ∙ absent));
        within = let inside = slice_get_within runs k r is in let long = length-set runs k q in omega (arith, inside, long);
        spare = λ j s at other. elim (set_cases runs k j r q s is at) [
          | inl same ↦ absurd (other same.0)
          | inr old ↦ roomy runs homes last are room j s old.1
        ];
      }

-- a list's room, by its parts
pub room_parts : (a b : ℕ) → 0 < min a (min 1 b) → (0 < a) × (0 < b)
room_parts a b room = (omega (arith, room), omega (arith, room))

-- two blocks at one index
pub same_run : (runs : List ListBlock) (k : ℕ) (r q : ListBlock) → slice_get runs k ≡ Some r → slice_get runs k ≡ Some q → r ≡ q
same_run runs k r q is at = same_Some r q (sym is ∙ at)

-- all that `insert_after` does
pub record IsPlaced (runs : List ListBlock) (homes : List (OpId × ℕ)) (prev : Option OpId) (a : OpId) (k : ℕ)
    (r q : ListBlock) : Type 0 where
  pub items : joined (set runs k q) ≡ insert_after prev a (joined runs)
  pub shown : joined_shown (set runs k q) ≡ joined_shown runs
  pub blocks : AreBlocks (set runs k q) (put id_cmp a r.number homes) k

pub item_put : (runs : List ListBlock) (homes : List (OpId × ℕ)) (last : ℕ) (prev : Option OpId) (a : OpId) (from_block from_index k i : ℕ)
    (r q : ListBlock)
    → AreBlocks runs homes last → has_item a (joined runs) ≡ false → 0 < room_at runs last → IsBehind runs prev from_block from_index
    → GoesIn runs a from_block from_index k i → slice_get runs k ≡ Some r
    → q.number ≡ r.number → q.items ≡ insert r.items i a → q.flags ≡ insert r.flags i false → IsPlaced runs homes prev a k r q
item_put runs homes last prev a from_block from_index k i r q are absent room behind goes is number items flags =
    let within : i ≤ length r.items = subst (λ xs. i ≤ length xs) (items_here runs k r is) goes.within in
    record {
      items = joined_put runs k i r q a is within items flags ∙ sym goes.same ∙ sym (behind.inserts a);
      shown = shown_put runs k i r q a is within items flags homes last are;
      blocks = blocks_put runs k i r q a is within items flags homes last are absent number room;
    }
