-- Entries that rise, merged with others that rise.
use Rattle.std.proofs.Common.{◌≡◌, refl, sym, ap, ◌∙◌, ℕ, zero, suc, ◌<◌, ◌≤◌, true, IsTrue, List, [], ◌∷◌, ◌++◌}
use Rattle.std.proofs.Common.{append_assoc, length, map, take, drop, get_or, arith, Less, Equal, Greater}
use Rattle.std.specs.Ordering.{is_lt, nat_cmp, ordering_then, ordering_reverse}
use Rattle.std.specs.FinMap.{find, put, is_sorted}
use Rattle.std.specs.Option.{option_or}
use Rattle.std.proofs.lemmas.List.{take-append-drop}
use Rattle.std.specs.FinMap.Entries.{below_all, by_order}
use Rattle.std.proofs.lemmas.Bool.{and_from, and_parts}
use Rattle.semantics.specs.Ids.{OpId, id_at, id_cmp}
use Rattle.semantics.proofs.Orders.{Less_from_test, id_total, same_ids}
use Rattle.cursor.specs.declared.tag.Tag.{Tag}
use Rattle.columns.specs.Rank.{as_set}
use Rattle.columns.specs.ReplicaColumns.{Standing, is_rising, put_each, standing, tags_of}
use Rattle.columns.specs.declared.replica_column.ReplicaColumn.{ReplicaColumn}
use Rattle.columns.proofs.ByReplica.{option_or_none, run}
use Rattle.columns.proofs.PutEach.{find-each, put_below, rising_each, same_maps}
use Rattle.columns.proofs.WrittenColumns.{standing-append}

module _ {X : Type 0} where
  below_put : (k id : OpId) (v : X) (m : List (OpId × X)) → is_lt (id_cmp k id) ≡ true → IsTrue (below_all id_cmp k m)
      → IsTrue (below_all id_cmp k (put id_cmp id v m))
  below_put k id v [] lt b = and_from _ true lt refl
  below_put k id v (e ∷ es) lt b =
      let parts = and_parts (is_lt (id_cmp k e.0)) (below_all id_cmp k es) b in
      elim (id_cmp id e.0) as
      (λ o. IsTrue (below_all id_cmp k (by_order o ((id, v) ∷ e ∷ es) ((e.0, v) ∷ es) (e ∷ put id_cmp id v es)))) [
        | Less ↦ and_from _ _ lt b
        | Equal ↦ b
        | Greater ↦ and_from _ _ parts.0 (below_put k id v es lt parts.1)
      ]

  below_each : (k : OpId) (es m : List (OpId × X)) → IsTrue (below_all id_cmp k es) → IsTrue (below_all id_cmp k m)
      → IsTrue (below_all id_cmp k (put_each es m))
  below_each k [] m b c = c
  below_each k (e ∷ es) m b c =
      let parts = and_parts (is_lt (id_cmp k e.0)) (below_all id_cmp k es) b in
      below_put k e.0 e.1 (put_each es m) parts.0 (below_each k es m parts.1 c)

  below_further : (k id : OpId) (es : List (OpId × X)) → id_cmp k id ≡ Less → IsTrue (below_all id_cmp id es)
      → IsTrue (below_all id_cmp k es)
  below_further k id [] lt b = refl
  below_further k id (e ∷ es) lt b =
      let parts = and_parts (is_lt (id_cmp id e.0)) (below_all id_cmp id es) b in
      and_from _ _ (ap is_lt (id_total.trans k id e.0 lt (Less_from_test _ parts.0))) (below_further k id es lt parts.1)

  behind : (h : OpId × X) (id : OpId) (v : X) (m : List (OpId × X)) → id_cmp h.0 id ≡ Less
      → put id_cmp id v (h ∷ m) ≡ h ∷ put id_cmp id v m
  behind h id v m lt = ap (λ o. by_order o ((id, v) ∷ h ∷ m) ((h.0, v) ∷ m) (h ∷ put id_cmp id v m))
      (id_total.antisymm id h.0 ∙ ap ordering_reverse lt)

  -- what is put behind an entry leaves it in front
  front_stays : (h : OpId × X) (es m : List (OpId × X)) → IsTrue (below_all id_cmp h.0 es) → put_each es (h ∷ m) ≡ h ∷ put_each es m
  front_stays h [] m b = refl
  front_stays h (e ∷ es) m b =
      let parts = and_parts (is_lt (id_cmp h.0 e.0)) (below_all id_cmp h.0 es) b in
      ap (put id_cmp e.0 e.1) (front_stays h es m parts.1) ∙ behind h e.0 e.1 (put_each es m) (Less_from_test _ parts.0)

  shifted : (xs : List (OpId × X)) (h : OpId × X) (ys : List (OpId × X)) → xs ++ (h ∷ ys) ≡ (xs ++ h ∷ []) ++ ys
  shifted xs h ys = sym (append_assoc xs (h ∷ []) ys)

  pub read_drop : (m : List (OpId × X)) (i : ℕ) (h : OpId × X) → i < length m → h ≡ get_or m i h → drop i m ≡ h ∷ drop (suc i) m
  read_drop [] i h lt read = absurd (omega arith)
  read_drop (x ∷ m) zero h lt read = ap (λ y. y ∷ m) (sym read)
  read_drop (x ∷ m) (suc i) h lt read = read_drop m i h (omega arith) read

  sorted_drop : (m : List (OpId × X)) (i : ℕ) → IsTrue (is_sorted id_cmp m) → IsTrue (is_sorted id_cmp (drop i m))
  sorted_drop m zero r = r
  sorted_drop [] (suc i) r = refl
  sorted_drop (x ∷ m) (suc i) r = sorted_drop m i (and_parts (below_all id_cmp x.0 m) (is_sorted id_cmp m) r).1

  -- each is below those behind it
  pub below_rest : (m : List (OpId × X)) (i : ℕ) (h : OpId × X) → IsTrue (is_sorted id_cmp m) → i < length m → h ≡ get_or m i h
      → IsTrue (below_all id_cmp h.0 (drop (suc i) m))
  below_rest m i h r lt read =
      (and_parts (below_all id_cmp h.0 (drop (suc i) m)) (is_sorted id_cmp (drop (suc i) m))
      (ap (is_sorted id_cmp) (sym (read_drop m i h lt read)) ∙ sorted_drop m i r)).0

  pub past_end : (m : List (OpId × X)) (i : ℕ) → length m ≤ i → drop i m ≡ []
  past_end [] zero le = refl
  past_end [] (suc i) le = refl
  past_end (x ∷ m) zero le = absurd (omega arith)
  past_end (x ∷ m) (suc i) le = past_end m i (omega arith)

  -- ---- one id among entries

  -- an entry before it goes first
  pub goes_smaller : (id : OpId) (before so_far m : List (OpId × X)) (i : ℕ) (h : OpId × X) → i < length m → h ≡ get_or m i h
      → id_cmp h.0 id ≡ Less → (start : List (OpId × X))
      → ((v : X) (es : List (OpId × X)) → IsTrue (below_all id_cmp id es)
      → so_far ++ put_each ((id, v) ∷ es) (drop i m) ≡ before ++ put_each ((id, v) ∷ es) start)
      → (v : X) (es : List (OpId × X)) → IsTrue (below_all id_cmp id es)
      → (so_far ++ h ∷ []) ++ put_each ((id, v) ∷ es) (drop (suc i) m) ≡ before ++ put_each ((id, v) ∷ es) start
  goes_smaller id before so_far m i h lt read less start inv v es b =
      sym (shifted so_far h (put id_cmp id v (put_each es (drop (suc i) m))))
      ∙ ap (λ l. so_far ++ l) (sym (behind h id v (put_each es (drop (suc i) m)) less)
      ∙ ap (put id_cmp id v) (sym (front_stays h es (drop (suc i) m) (below_further h.0 id es less b))
      ∙ ap (put_each es) (sym (read_drop m i h lt read))))
      ∙ inv v es b

  -- the same one is replaced
  pub goes_here : (id : OpId) (so_far m : List (OpId × X)) (i : ℕ) (h : OpId × X) → i < length m → h ≡ get_or m i h
      → id_cmp h.0 id ≡ Equal → (v : X) (es : List (OpId × X)) → IsTrue (below_all id_cmp id es)
      → so_far ++ (id, v) ∷ put_each es (drop (suc i) m) ≡ so_far ++ put_each ((id, v) ∷ es) (drop i m)
  goes_here id so_far m i h lt read equal v es b =
      let same : h.0 ≡ id = same_ids h.0 id equal in
      ap (λ l. so_far ++ l) (
      (λ t. (sym same t, v) ∷ put_each es (drop (suc i) m))
      ∙ sym (ap (λ o. by_order o ((id, v) ∷ h ∷ put_each es (drop (suc i) m)) ((h.0, v) ∷ put_each es (drop (suc i) m))
      (h ∷ put id_cmp id v (put_each es (drop (suc i) m)))) (id_total.antisymm id h.0 ∙ ap ordering_reverse equal))
      ∙ ap (put id_cmp id v) (sym (front_stays h es (drop (suc i) m) (ap (λ k. below_all id_cmp k es) same ∙ b))
      ∙ ap (put_each es) (sym (read_drop m i h lt read))))

  -- it goes before those that are greater
  pub goes_before : (id : OpId) (so_far m : List (OpId × X)) → IsTrue (below_all id_cmp id m)
      → (v : X) (es : List (OpId × X)) → IsTrue (below_all id_cmp id es)
      → so_far ++ (id, v) ∷ put_each es m ≡ so_far ++ put_each ((id, v) ∷ es) m
  goes_before id so_far m above v es b = ap (λ l. so_far ++ l) (sym (put_below id v (put_each es m) (below_each id es m b above)))

  pub greater_from : (id : OpId) (m : List (OpId × X)) (i : ℕ) (h : OpId × X) → IsTrue (is_sorted id_cmp m) → i < length m
      → h ≡ get_or m i h → id_cmp h.0 id ≡ Greater → IsTrue (below_all id_cmp id (drop i m))
  greater_from id m i h r lt read greater =
      let less : id_cmp id h.0 ≡ Less = id_total.antisymm id h.0 ∙ ap ordering_reverse greater in
      let sorted = ap (is_sorted id_cmp) (sym (read_drop m i h lt read)) ∙ sorted_drop m i r in
      ap (below_all id_cmp id) (read_drop m i h lt read)
      ∙ and_from _ _ (ap is_lt less)
      (below_further id h.0 (drop (suc i) m) less
      (and_parts (below_all id_cmp h.0 (drop (suc i) m)) (is_sorted id_cmp (drop (suc i) m)) sorted).0)

  -- ---- one after the other

  pub put_each-append : (xs ys m : List (OpId × X)) → put_each (xs ++ ys) m ≡ put_each xs (put_each ys m)
  put_each-append [] ys m = refl
  put_each-append (x ∷ xs) ys m = ap (put id_cmp x.0 x.1) (put_each-append xs ys m)

  -- entries that were put in order before
  pub collapsed : (xs m : List (OpId × X)) → IsTrue (is_sorted id_cmp m) → put_each (put_each xs []) m ≡ put_each xs m
  collapsed xs m r = same_maps (put_each (put_each xs []) m) (put_each xs m) (rising_each (put_each xs []) m r) (rising_each xs m r)
      (λ q. find-each q (put_each xs []) m
      ∙ ap (λ o. option_or o (find id_cmp q m)) (find-each q xs [] ∙ option_or_none (find id_cmp q xs)) ∙ sym (find-each q xs m))

  pub one_more : (xs : List (OpId × X)) (h : OpId × X) (ys : List (OpId × X)) → (xs ++ h ∷ []) ++ ys ≡ xs ++ h ∷ ys
  one_more xs h ys = append_assoc xs (h ∷ []) ys

-- ---- the ids of a column

-- each with its tag
abbrev pub tagged_run : ℕ → Tag → List ℕ → List (OpId × Tag)
tagged_run p t ks = map (λ k. (id_at k p, t)) ks

pub tags-run : (p : ℕ) (s : Standing) (ks : List ℕ) → tags_of (run p s ks) ≡ tagged_run p s.0 ks
tags-run p s [] = refl
tags-run p s (k ∷ ks) = ap (λ l. (id_at k p, s.0) ∷ l) (tags-run p s ks)

pub tags-append : (xs ys : List (OpId × Standing)) → tags_of (xs ++ ys) ≡ tags_of xs ++ tags_of ys
tags-append [] ys = refl
tags-append (x ∷ xs) ys = ap (λ l. (x.0, x.1.0) ∷ l) (tags-append xs ys)

below_run : (k p : ℕ) (t : Tag) (ks : List ℕ) → IsTrue (below_all nat_cmp k (as_set ks))
    → IsTrue (below_all id_cmp (id_at k p) (tagged_run p t ks))
below_run k p t [] b = refl
below_run k p t (j ∷ ks) b =
    let parts = and_parts (is_lt (nat_cmp k j)) (below_all nat_cmp k (as_set ks)) b in
    and_from _ _ (ap (λ o. is_lt (ordering_then o (nat_cmp p p))) (Less_from_test _ parts.0)) (below_run k p t ks parts.1)

pub sorted_run : (p : ℕ) (t : Tag) (ks : List ℕ) → IsTrue (is_rising ks) → IsTrue (is_sorted id_cmp (tagged_run p t ks))
sorted_run p t [] r = refl
sorted_run p t (k ∷ ks) r =
    let parts = and_parts (below_all nat_cmp k (as_set ks)) (is_rising ks) r in
    and_from _ _ (below_run k p t ks parts.0) (sorted_run p t ks parts.1)

-- one counter and those behind it
pub next_run : (p : ℕ) (t : Tag) (ks : List ℕ) (i k : ℕ) → i < length ks → k ≡ get_or ks i k
    → tagged_run p t (drop i ks) ≡ (id_at k p, t) ∷ tagged_run p t (drop (suc i) ks)
next_run p t [] i k lt read = absurd (omega arith)
next_run p t (x ∷ ks) zero k lt read = ap (λ y. (id_at y p, t) ∷ tagged_run p t ks) (sym read)
next_run p t (x ∷ ks) (suc i) k lt read = next_run p t ks i k (omega arith) read

-- ---- the columns in two halves

pub merged_halves : (cs : List ReplicaColumn) (n : ℕ) (m : List (OpId × Tag)) → IsTrue (is_sorted id_cmp m)
    → put_each (put_each (tags_of (standing (take n cs))) []) (put_each (tags_of (standing (drop n cs))) m)
    ≡ put_each (tags_of (standing cs)) m
merged_halves cs n m r =
    let own = tags_of (standing (take n cs)) in
    let others = tags_of (standing (drop n cs)) in
    collapsed own (put_each others m) (rising_each others m r) ∙ sym (put_each-append own others m)
    ∙ ap (λ l. put_each l m) (sym (tags-append (standing (take n cs)) (standing (drop n cs)))
    ∙ ap tags_of (sym (standing-append (take n cs) (drop n cs)) ∙ ap standing (take-append-drop n cs)))
