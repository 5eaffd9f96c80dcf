-- A block that is cut in two.
use Rattle.std.proofs.Common.{◌≡◌, refl, sym, ap, ◌∙◌, subst, ℕ, zero, suc, ◌+◌, ◌-◌, ◌<◌, ◌≤◌, Bool, true, false, true≢false, cond, ◌||◌}
use Rattle.std.proofs.Common.{◌⊎◌, inl, inr, List, [], ◌∷◌, ◌++◌, length, set, length-set, drop, take, Some, is_some, slice_get, arith}
use Rattle.std.proofs.Common.{append_assoc}
use Rattle.std.specs.Prelude.{min}
use Rattle.std.specs.List.{insert, items_where_true}
use Rattle.std.specs.FinMap.{find}
use Rattle.std.specs.FinMap.Entries.{is_some-find}
use Rattle.std.proofs.lemmas.Bool.{or_right}
use Rattle.std.proofs.lemmas.List.{length-drop, length-take, take-append-drop}
use Rattle.std.proofs.lemmas.List.Edits.{length-insert}
use Rattle.std.proofs.lemmas.Option.{slice_get_within, same_Some}
use Rattle.semantics.specs.Ids.{OpId, id_cmp}
use Rattle.semantics.proofs.SetElements.{get-set_same}
use Rattle.columns.specs.Rank.{has_key, keys_of}
use Rattle.semantics.specs.Context.{has_item}
use Rattle.columns.specs.Blocks.{AreApart, AreBlocks, AreHomed, AreMoved, IsSameList, ListBlock, joined, joined_shown, room_at}
use Rattle.columns.proofs.InBlock.{has_item-append}
use Rattle.columns.proofs.Flags.{shown_append}
use Rattle.columns.proofs.Apart.{apart_append, apart_block, apart_blocks}
use Rattle.columns.proofs.Walked.{lacks_other}
use Rattle.columns.proofs.Changed.{blocks_same, joined_same, room_here, set_cases, shown_same}

-- what stands at an index of a list into which one came
insert_cases : {X : Type 0} (xs : List X) (i j : ℕ) (y z : X) → i ≤ length xs → slice_get (insert xs i y) j ≡ Some z
    → (z ≡ y) ⊎ ((h : ℕ) × (slice_get xs h ≡ Some z) × ((j < i) × (h ≡ j) ⊎ (i < j) × (suc h ≡ j)))
insert_cases [] zero zero y z within at = inl (sym (same_Some y z at))
insert_cases [] zero (suc j) y z within at = absurd (cc at)
insert_cases [] (suc i) j y z within at = absurd (omega (arith, within))
insert_cases (x ∷ xs) zero zero y z within at = inl (sym (same_Some y z at))
insert_cases (x ∷ xs) zero (suc j) y z within at = inr (j, at, inr (omega arith, refl))
insert_cases (x ∷ xs) (suc i) zero y z within at = inr (0, at, inl (omega arith, refl))
insert_cases (x ∷ xs) (suc i) (suc j) y z within at = elim (insert_cases xs i j y z (omega (arith, within)) at) [
  | inl e ↦ inl e
  | inr (h, is, inl (lt, e)) ↦ inr (suc h, is, inl (omega (arith, lt), ap suc e))
  | inr (h, is, inr (lt, e)) ↦ inr (suc h, is, inr (omega (arith, lt), ap suc e))
]

module _ (runs : List ListBlock) (k at : ℕ) (r q b : ListBlock) (is : slice_get runs k ≡ Some r) (items : q.items ≡ take at r.items)
    (flags : q.flags ≡ take at r.flags) (back_items : b.items ≡ drop at r.items) (back_flags : b.flags ≡ drop at r.flags) where
  -- the blocks, once r was cut
  abbrev halves : List ListBlock
  halves = insert (set runs k q) (k + 1) b

  pub joined_cut : joined halves ≡ joined runs
  joined_cut = let next : k + 1 ≡ suc k = omega arith in ap (λ j. joined (insert (set runs k q) j b)) next ∙ go runs k is
    where
      go : (runs : List ListBlock) (k : ℕ) → slice_get runs k ≡ Some r → joined (insert (set runs k q) (suc k) b) ≡ joined runs
      go [] k is = absurd (cc is)
      go (s ∷ runs) zero is =
          sym (append_assoc q.items b.items (joined runs))
          ∙ ap (λ xs. xs ++ joined runs)
          ((λ t. items t ++ back_items t) ∙ take-append-drop at r.items ∙ ap (λ (o : ListBlock). o.items) (sym (same_Some s r is)))
      go (s ∷ runs) (suc k) is = ap (λ xs. s.items ++ xs) (go runs k is)

  pub shown_cut : length r.flags ≡ length r.items → joined_shown halves ≡ joined_shown runs
  shown_cut long = let next : k + 1 ≡ suc k = omega arith in ap (λ j. joined_shown (insert (set runs k q) j b)) next ∙ go runs k is
    where
      fronts : length (take at r.flags) ≡ length (take at r.items)
      fronts = length-take at r.flags ∙ ap (λ n. min at n) long ∙ sym (length-take at r.items)

      both : items_where_true q.flags q.items ++ items_where_true b.flags b.items ≡ items_where_true r.flags r.items
      both =
          (λ t. items_where_true (flags t) (items t) ++ items_where_true (back_flags t) (back_items t))
          ∙ sym (shown_append (take at r.flags) (drop at r.flags) (take at r.items) (drop at r.items) fronts)
          ∙ (λ t. items_where_true (take-append-drop at r.flags t) (take-append-drop at r.items t))

      go : (runs : List ListBlock) (k : ℕ) → slice_get runs k ≡ Some r → joined_shown (insert (set runs k q) (suc k) b) ≡ joined_shown runs
      go [] k is = absurd (cc is)
      go (s ∷ runs) zero is =
          sym (append_assoc (items_where_true q.flags q.items) (items_where_true b.flags b.items) (joined_shown runs))
          ∙ ap (λ xs. xs ++ joined_shown runs) (both ∙ ap (λ (o : ListBlock). items_where_true o.flags o.items) (sym (same_Some s r is)))
      go (s ∷ runs) (suc k) is = ap (λ xs. items_where_true s.flags s.items ++ xs) (go runs k is)

  -- each block is one of the halves, or was there
  abbrev IsOneOf : ℕ → ListBlock → Type 0
  IsOneOf j s = ((s ≡ q) × (j ≡ k)) ⊎ ((s ≡ b) ⊎ ((h : ℕ) × (h ≡ k → ⊥) × (slice_get runs h ≡ Some s)))

  one_of : (j : ℕ) (s : ListBlock) → slice_get halves j ≡ Some s → IsOneOf j s
  one_of j s there = by
      (insert_cases (set runs k q) (k + 1) j b s
      (let inside = slice_get_within runs k r is in let long = length-set runs k q in omega (arith, inside, long)) there)
    where
      by_set : (h : ℕ) → slice_get (set runs k q) h ≡ Some s → (h ≡ k → j ≡ k) → IsOneOf j s
      by_set h at_h same = elim (set_cases runs k h r q s is at_h) [
        | inl e ↦ inl (e.1, same e.0)
        | inr e ↦ inr (inr (h, e.0, e.1))
      ]

      by : (s ≡ b) ⊎ ((h : ℕ) × (slice_get (set runs k q) h ≡ Some s) × ((j < k + 1) × (h ≡ j) ⊎ (k + 1 < j) × (suc h ≡ j))) → IsOneOf j s
      by (inl e) = inr (inl e)
      by (inr (h, at_h, inl (lt, e))) = by_set h at_h (λ same. sym e ∙ same)
      by (inr (h, at_h, inr (lt, e))) = by_set h at_h (λ same. absurd (omega (arith, lt, e, same)))

  module _ (old_homes new_homes : List (OpId × ℕ)) (are : AreBlocks runs old_homes k) (number : q.number ≡ r.number)
      (moved : AreMoved b.items b.number old_homes new_homes) (room : 0 < b.room) where
    in_front : (a : OpId) → has_item a q.items ≡ true → has_item a r.items ≡ true
    in_front a has =
        ap (has_item a) (sym (take-append-drop at r.items)) ∙ has_item-append a (take at r.items) (drop at r.items)
        ∙ ap (λ t. t || has_item a (drop at r.items)) (ap (has_item a) (sym items) ∙ has)

    in_back : (a : OpId) → has_item a b.items ≡ true → has_item a r.items ≡ true
    in_back a has =
        ap (has_item a) (sym (take-append-drop at r.items)) ∙ has_item-append a (take at r.items) (drop at r.items)
        ∙ or_right (has_item a (take at r.items)) (has_item a (drop at r.items)) (ap (has_item a) (sym back_items) ∙ has)

    -- an item that isn't of the back keeps its home
    stays : (a : OpId) → has_item a b.items ≡ false → find id_cmp a new_homes ≡ find id_cmp a old_homes
    stays a lacks = moved a ∙ ap (λ t. cond t (Some b.number) (find id_cmp a old_homes)) lacks

    homed_cut : AreHomed new_homes halves
    homed_cut j s there a has = by (one_of j s there)
      where
        by : IsOneOf j s → find id_cmp a new_homes ≡ Some s.number
        by (inl (same, e)) =
            let mine : has_item a q.items ≡ true = ap (λ (o : ListBlock). has_item a o.items) (sym same) ∙ has in
            let other : has_item a b.items ≡ false =
            ap (has_item a) back_items
            ∙ apart_append a (take at r.items) (drop at r.items)
            (subst AreApart (sym (take-append-drop at r.items)) (apart_block runs k r are.apart is))
            (ap (has_item a) (sym items) ∙ mine) in
            stays a other ∙ are.at_home.homed k r is a (in_front a mine)
            ∙ ap Some (sym number ∙ ap (λ (o : ListBlock). o.number) (sym same))
        by (inr (inl same)) =
            moved a
            ∙ ap (λ t. cond t (Some b.number) (find id_cmp a old_homes)) (ap (λ (o : ListBlock). has_item a o.items) (sym same) ∙ has)
            ∙ ap (λ (o : ListBlock). Some o.number) (sym same)
        by (inr (inr (h, other, at_h))) =
            let lacks : has_item a b.items
            ≡ false = lacks_other a b.items
            (λ mine. true≢false (sym (in_back a mine) ∙ apart_blocks runs h k s r a are.apart at_h is other has)) in
            stays a lacks ∙ are.at_home.homed h s at_h a has

    only_cut : (a : OpId) → has_key id_cmp a (keys_of new_homes) ≡ has_item a (joined halves)
    only_cut a = sym (is_some-find id_cmp a new_homes) ∙ ap is_some (moved a) ∙ by (has_item a b.items) refl ∙ are.at_home.only a
        ∙ ap (has_item a) (sym joined_cut)
      where
        by : (t : Bool) → has_item a b.items ≡ t
            → is_some (cond (has_item a b.items) (Some b.number) (find id_cmp a old_homes)) ≡ has_key id_cmp a (keys_of old_homes)
        by true e =
            ap (λ t. is_some (cond t (Some b.number) (find id_cmp a old_homes))) e
            ∙ sym (ap is_some (are.at_home.homed k r is a (in_back a e))) ∙ is_some-find id_cmp a old_homes
        by false e = ap (λ t. is_some (cond t (Some b.number) (find id_cmp a old_homes))) e ∙ is_some-find id_cmp a old_homes

    pub blocks_cut : AreBlocks halves new_homes k
    blocks_cut = record {
      long = λ j s there. long_by j s (one_of j s there);
      at_home = record { homed = homed_cut; only = only_cut };
      apart = subst AreApart (sym joined_cut) are.apart;
      within =
          let inside = slice_get_within runs k r is in
          let long = length-set runs k q in
          let more = length-insert (set runs k q) (k + 1) b (omega (arith, inside, long)) in
          omega (arith, inside, long, more);
      spare = λ j s there other. spare_by j s other (one_of j s there);
    }
      where
        long_by : (j : ℕ) (s : ListBlock) → IsOneOf j s → length s.flags ≡ length s.items
        long_by j s (inl (same, e)) =
            ap (λ (o : ListBlock). length o.flags) same ∙ ap length flags ∙ length-take at r.flags ∙ ap (λ n. min at n) (are.long k r is)
            ∙ sym (length-take at r.items)
            ∙ ap length (sym items) ∙ ap (λ (o : ListBlock). length o.items) (sym same)
        long_by j s (inr (inl same)) =
            ap (λ (o : ListBlock). length o.flags) same ∙ ap length back_flags ∙ length-drop at r.flags ∙ ap (λ n. n - at) (are.long k r is)
            ∙ sym (length-drop at r.items)
            ∙ ap length (sym back_items) ∙ ap (λ (o : ListBlock). length o.items) (sym same)
        long_by j s (inr (inr (h, other, at_h))) = are.long h s at_h

        spare_by : (j : ℕ) (s : ListBlock) → (j ≡ k → ⊥) → IsOneOf j s → 0 < s.room
        spare_by j s not_last (inl (same, e)) = absurd (not_last e)
        spare_by j s not_last (inr (inl same)) = subst (λ (o : ListBlock). 0 < o.room) (sym same) room
        spare_by j s not_last (inr (inr (h, other, at_h))) = are.spare h s at_h other

-- the block that was cut keeps its index
pub room_cut : (runs : List ListBlock) (k : ℕ) (r q b : ListBlock) → slice_get runs k ≡ Some r
    → room_at (insert (set runs k q) (k + 1) b) k ≡ q.room
room_cut runs k r q b is = let next : k + 1 ≡ suc k = omega arith in ap (λ j. room_at (insert (set runs k q) j b) k) next ∙ go runs k is
  where
    go : (runs : List ListBlock) (k : ℕ) → slice_get runs k ≡ Some r → room_at (insert (set runs k q) (suc k) b) k ≡ q.room
    go [] k is = absurd (cc is)
    go (s ∷ runs) zero is = refl
    go (s ∷ runs) (suc k) is = go runs k is

-- a list's first block
pub blocks_first : (q : ListBlock) (homes : List (OpId × ℕ)) (last : ℕ) → AreBlocks [] homes last → q.items ≡ [] → q.flags ≡ []
    → AreBlocks (q ∷ []) homes last
blocks_first q homes last are items flags = record {
  long = λ j s there. let same = one j s there in
      ap (λ (o : ListBlock). length o.flags) same ∙ ap length flags ∙ ap length (sym items)
      ∙ ap (λ (o : ListBlock). length o.items) (sym same);
  at_home = record {
    homed = λ j s there a has. absurd
        (true≢false (sym has ∙ ap (λ (o : ListBlock). has_item a o.items) (one j s there) ∙ ap (has_item a) items));
    only = λ a. are.at_home.only a ∙ ap (has_item a) (sym none);
  };
  apart = subst AreApart (sym none) tt;
  within = let within = are.within in omega (arith, within);
  spare = λ j s there other. let inside = slice_get_within (q ∷ []) j s there in let within = are.within in
      absurd (other (omega (arith, inside, within)));
}
  where
    none : joined (q ∷ []) ≡ []
    none = ap (λ xs. xs ++ []) items

    one : (j : ℕ) (s : ListBlock) → slice_get (q ∷ []) j ≡ Some s → s ≡ q
    one zero s there = sym (same_Some q s there)
    one (suc j) s there = absurd (cc there)

-- a block with the same items, and no less room
pub same_list : (runs : List ListBlock) (homes : List (OpId × ℕ)) (k : ℕ) (r q : ListBlock) → AreBlocks runs homes k
    → slice_get runs k ≡ Some r
    → q.number ≡ r.number → q.items ≡ r.items → q.flags ≡ r.flags → r.room ≤ q.room
    → IsSameList runs (set runs k q) homes k
same_list runs homes k r q are is number items flags room = record {
  blocks = blocks_same runs k r q is homes k are number items (ap length flags ∙ are.long k r is ∙ ap length (sym items)) room;
  items = joined_same runs k r q is items;
  shown = shown_same runs k r q is (λ t. items_where_true (flags t) (items t));
  kept =
      let before = room_here runs k r is in
      let after = room_here (set runs k q) k q (get-set_same runs k r q is) in
      omega (arith, before, after, room);
}

-- a list whose last block was cut
pub cut_list : (runs : List ListBlock) (old_homes new_homes : List (OpId × ℕ)) (k at : ℕ) (r q b : ListBlock) → AreBlocks runs old_homes k
    → slice_get runs k ≡ Some r → q.number ≡ r.number → q.items ≡ take at r.items → q.flags ≡ take at r.flags
    → b.items ≡ drop at r.items → b.flags ≡ drop at r.flags → AreMoved b.items b.number old_homes new_homes → 0 < b.room → r.room ≤ q.room
    → IsSameList runs (insert (set runs k q) (k + 1) b) new_homes k
cut_list runs old_homes new_homes k at r q b are is number items flags back_items back_flags moved some room = record {
  blocks = blocks_cut runs k at r q b is items flags back_items back_flags old_homes new_homes are number moved some;
  items = joined_cut runs k at r q b is items flags back_items back_flags;
  shown = shown_cut runs k at r q b is items flags back_items back_flags (are.long k r is);
  kept =
      let before = room_here runs k r is in
      let after = room_cut runs k r q b is in
      omega (arith, before, after, room);
}

-- the items of the back have a home
pub have_homes : (runs : List ListBlock) (homes : List (OpId × ℕ)) (last k at : ℕ) (r : ListBlock) (back : List OpId)
    → AreBlocks runs homes last
    → slice_get runs k ≡ Some r → back ≡ drop at r.items → (a : OpId) → has_item a back ≡ true → is_some (find id_cmp a homes) ≡ true
have_homes runs homes last k at r back are is behind a has =
    let mine : has_item a r.items ≡ true =
    ap (has_item a) (sym (take-append-drop at r.items)) ∙ has_item-append a (take at r.items) (drop at r.items)
    ∙ or_right (has_item a (take at r.items)) (has_item a (drop at r.items)) (ap (has_item a) (sym behind) ∙ has) in
    ap is_some (are.at_home.homed k r is a mine)

-- no list stays one
pub first_list : (q : ListBlock) (homes : List (OpId × ℕ)) (last : ℕ) → AreBlocks [] homes last → q.items ≡ [] → q.flags ≡ []
    → IsSameList [] (q ∷ []) homes last
first_list q homes last are items flags = record {
  blocks = blocks_first q homes last are items flags;
  items = ap (λ xs. xs ++ []) items;
  shown = (λ t. items_where_true (flags t) (items t) ++ []);
  kept = omega arith;
}
