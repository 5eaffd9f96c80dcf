-- An id that is put into a list, or into the column of its replica.
use Rattle.std.proofs.Common.{◌≡◌, ◌≢◌, refl, sym, ap, ◌∙◌, subst, ℕ, zero, suc, ◌+◌, ◌<◌, Bool, true, false, true≢false, cond}
use Rattle.std.proofs.Common.{not, ◌&&◌}
use Rattle.std.proofs.Common.{◌||◌, ◌==◌, IsTrue, List, [], ◌∷◌, ◌++◌, length, get_or, set, slice_get, arith, tests}
use Rattle.std.specs.Prelude.{Option, Some, None, is_some, IsSome, option_map, unwrap_or}
use Rattle.std.specs.List.{All, filter, list_any}
use Rattle.std.specs.Option.{option_or}
use Rattle.std.specs.Ordering.{nat_cmp}
use Rattle.std.specs.FinMap.{find, put, is_sorted}
use Rattle.std.specs.FinMap.Entries.{below_all, find-put}
use Rattle.std.proofs.lemmas.Bool.{and_parts, eqb-true, ne_eqb}
use Rattle.std.proofs.lemmas.List.{length-append}
use Rattle.std.proofs.lemmas.List.Folds.{list_any-append}
use Rattle.std.proofs.Math.Seq.{map-set_same}
use Rattle.ids.specs.Members.{AreDistinct}
use Rattle.semantics.specs.Ids.{OpId, id_cmp, is_same_id}
use Rattle.semantics.proofs.Orders.{id_itself, id_total, ids_from_test}
use Rattle.cursor.specs.declared.tag.Tag.{Tag}
use Rattle.columns.specs.Entries.{Entries, put_index}
use Rattle.columns.specs.Rank.{as_set, keys_of}
use Rattle.columns.specs.ReplicaColumns.{AreApart, AreCounted, IsSameColumn, IsUpTo, Standing, all_standing, index_at}
use Rattle.columns.specs.ReplicaColumns.{is_rising}
use Rattle.columns.specs.ReplicaColumns.{replicas_of, standing, standing_in, with_indices}
use Rattle.columns.specs.declared.replica_column.ReplicaColumn.{ReplicaColumn}
use Rattle.columns.proofs.ByReplica.{find-run, find_beside, find_own, length_written}
use Rattle.columns.proofs.Counters.{below_at, rising_filter}
use Rattle.columns.proofs.ListPuts.{sorted_with, with_indices-put}
use Rattle.columns.proofs.PutEach.{find-each, is_put, rising_each}
use Rattle.columns.proofs.Puts.{rising_put}

-- the list as one map with its indices
abbrev pub listed : Entries Tag → List (OpId × Standing)
listed L = with_indices L.entries L.indices

other_id : (q id : OpId) → q ≢ id → is_same_id q id ≡ false
other_id q id h = at_test (is_same_id q id) refl
  where
    at_test : (b : Bool) → is_same_id q id ≡ b → b ≡ false
    at_test true e = absurd (h (ids_from_test q id e))
    at_test false e = refl

-- ids of one replica differ by their counters
other_counter : (q id : OpId) → q ≢ id → q.replica ≡ id.replica → (id.counter == q.counter) ≡ false
other_counter q id h same = ne_eqb id.counter q.counter (λ e. h (λ i. record { counter = sym e i; replica = same i }))

all_rising : (L : Entries Tag) (cs : List ReplicaColumn) → IsTrue (is_sorted id_cmp L.entries) → length L.indices ≡ length L.entries
    → IsTrue (is_sorted id_cmp (all_standing L cs))
all_rising L cs r long = rising_each (standing cs) (listed L) (sorted_with L.entries L.indices long ∙ r)

-- ---- into the list

module _ (L N : Entries Tag) (cs ds : List ReplicaColumn) (id : OpId) (own : ℕ) (tag : Tag)
    (r : IsTrue (is_sorted id_cmp L.entries)) (long : length L.indices ≡ length L.entries)
    (entries : N.entries ≡ put id_cmp id tag L.entries) (indices : N.indices ≡ put_index id own (keys_of L.entries) L.indices)
    (gone : find id_cmp id (standing ds) ≡ None)
    (others : (q : OpId) → q ≢ id → find id_cmp q (standing ds) ≡ find id_cmp q (standing cs)) where
  new_list : listed N ≡ put id_cmp id (tag, index_at id own (listed L)) (listed L)
  new_list = (λ i. with_indices (entries i) (indices i)) ∙ with_indices-put id own tag L.entries L.indices long r

  list_rising : IsTrue (is_sorted id_cmp (listed L))
  list_rising = sorted_with L.entries L.indices long ∙ r

  found_here : find id_cmp id (listed N) ≡ Some (tag, index_at id own (listed L))
  found_here = ap (find id_cmp id) new_list ∙ find-put id_cmp id_total id id (tag, index_at id own (listed L)) (listed L)
      ∙ ap (λ b. cond b (Some (tag, index_at id own (listed L))) (find id_cmp id (listed L))) (id_itself id)

  found_beside : (q : OpId) → q ≢ id → find id_cmp q (listed N) ≡ find id_cmp q (listed L)
  found_beside q h = ap (find id_cmp q) new_list ∙ find-put id_cmp id_total q id (tag, index_at id own (listed L)) (listed L)
      ∙ ap (λ b. cond b (Some (tag, index_at id own (listed L))) (find id_cmp q (listed L))) (other_id q id h)

  pub put_listed : (index : ℕ) → index_at id own (listed L) ≡ index_at id index (all_standing L cs)
      → all_standing N ds ≡ put id_cmp id (tag, index_at id index (all_standing L cs)) (all_standing L cs)
  put_listed index same = is_put id (tag, index_at id index (all_standing L cs)) (all_standing N ds) (all_standing L cs)
      (rising_each (standing ds) (listed N)
      (ap (is_sorted id_cmp) new_list
      ∙ rising_put id_cmp id_total id (tag, index_at id own (listed L)) (listed L) list_rising))
      (all_rising L cs r long)
      (find-each id (standing ds) (listed N) ∙ ap (λ o. option_or o (find id_cmp id (listed N))) gone ∙ found_here
      ∙ ap (λ n. Some (tag, n)) same)
      (λ q h. find-each q (standing ds) (listed N) ∙ (λ i. option_or (others q h i) (found_beside q h i))
      ∙ sym (find-each q (standing cs) (listed L)))

  pub apart_listed : AreApart L cs → All (λ (c : ReplicaColumn). IsTrue (is_rising c.counters.items)) ds → replicas_of ds ≡ replicas_of cs
      → AreApart N ds
  apart_listed a rising same = record {
    rising = rising;
    distinct = subst AreDistinct (sym same) a.distinct;
    apart = λ q some. at_test q some (is_same_id q id) refl;
  }
    where
      at_test : (q : OpId) → IsSome (find id_cmp q (standing ds)) → (b : Bool) → is_same_id q id ≡ b → find id_cmp q (listed N) ≡ None
      at_test q some true e =
          let none : find id_cmp q (standing ds) ≡ None = ap (λ x. find id_cmp x (standing ds)) (ids_from_test q id e) ∙ gone in
          absurd (true≢false (sym some ∙ ap is_some none))
      at_test q some false e =
          let h : q ≢ id = λ same_id. true≢false (sym (id_itself id) ∙ ap (λ x. is_same_id x id) (sym same_id) ∙ e) in
          found_beside q h ∙ a.apart q (ap is_some (sym (others q h)) ∙ some)

-- an id that stands in no column
pub put_in_list : (L N : Entries Tag) (cs : List ReplicaColumn) (id : OpId) (index : ℕ) (tag : Tag) → IsTrue (is_sorted id_cmp L.entries)
    → length L.indices ≡ length L.entries → N.entries ≡ put id_cmp id tag L.entries
    → N.indices ≡ put_index id index (keys_of L.entries) L.indices → find id_cmp id (standing cs) ≡ None
    → all_standing N cs ≡ put id_cmp id (tag, index_at id index (all_standing L cs)) (all_standing L cs)
put_in_list L N cs id index tag r long entries indices gone = put_listed L N cs cs id index tag r long entries indices gone
    (λ q h. refl) index
    (ap (λ (o : Option Standing). unwrap_or (option_map (λ s. s.1) o) index)
    (sym (find-each id (standing cs) (listed L) ∙ ap (λ o. option_or o (find id_cmp id (listed L))) gone)))

pub counted_in_list : (L N : Entries Tag) (cs : List ReplicaColumn) (count : ℕ) (id : OpId) (index : ℕ) (tag : Tag)
    → IsTrue (is_sorted id_cmp L.entries)
    → length L.indices ≡ length L.entries → N.entries ≡ put id_cmp id tag L.entries
    → N.indices ≡ put_index id index (keys_of L.entries) L.indices → find id_cmp id (standing cs) ≡ None
    → All (IsUpTo (all_standing N cs)) cs → AreCounted L cs count → AreCounted N cs count
counted_in_list L N cs count id index tag r long entries indices gone up a = record {
  apart = apart_listed L N cs cs id index tag r long entries indices gone (λ q h. refl) a.apart a.apart.rising refl;
  up_to = up;
  counted = a.counted;
  few = a.few;
}

-- ---- columns of which one is written

read_column : (cs : List ReplicaColumn) (i : ℕ) (c : ReplicaColumn) → i < length cs → c ≡ get_or cs i c → set cs i c ≡ cs
read_column [] i c lt read = absurd (omega arith)
read_column (x ∷ cs) zero c lt read = ap (λ y. y ∷ cs) read
read_column (x ∷ cs) (suc i) c lt read = ap (λ ys. x ∷ ys) (read_column cs i c (omega arith) read)

-- what holds of each, and of the one that is written
pub all_set : (P : ReplicaColumn → Type 0) (cs : List ReplicaColumn) (i : ℕ) (d : ReplicaColumn) → All P cs → P d → All P (set cs i d)
all_set P [] i d all here = all
all_set P (x ∷ cs) zero d all here = λ k e lt. first k e lt
  where
    first : (k : ℕ) (e : ReplicaColumn) → k < suc (length cs) → P (get_or (d ∷ cs) k e)
    first zero e lt = here
    first (suc k) e lt = all (suc k) e lt
all_set P (x ∷ cs) (suc i) d all here =
    later (all_set P cs i d (λ k e lt. all (suc k) e (omega arith)) here)
  where
    later : All P (set cs i d) → (k : ℕ) (e : ReplicaColumn) → k < suc (length (set cs i d)) → P (get_or (x ∷ set cs i d) k e)
    later rest zero e lt = all zero e (omega arith)
    later rest (suc k) e lt = rest k e (omega arith)

module _ (cs : List ReplicaColumn) (i : ℕ) (c d : ReplicaColumn) (id : OpId) (lt : i < length cs) (read : c ≡ get_or cs i c)
    (distinct : AreDistinct (replicas_of cs)) (at : slice_get (replicas_of cs) i ≡ Some id.replica) (same : IsSameColumn c d)
    (mine : c.replica ≡ id.replica) where
  own : d.replica ≡ id.replica
  own = same.replica ∙ mine

  pub replicas_written : replicas_of (set cs i d) ≡ replicas_of cs
  replicas_written = map-set_same (λ (x : ReplicaColumn). x.replica) cs i d c (same.replica ∙ ap (λ (x : ReplicaColumn). x.replica) read)

  pub found_before : (q : OpId) → q.replica ≡ id.replica → find id_cmp q (standing cs) ≡ find id_cmp q (standing_in c)
  found_before q e = ap (λ xs. find id_cmp q (standing xs)) (sym (read_column cs i c lt read))
      ∙ find_own q cs i c distinct (at ∙ ap Some (sym e))

  pub found_after : (q : OpId) → q.replica ≡ id.replica → find id_cmp q (standing (set cs i d)) ≡ find id_cmp q (standing_in d)
  found_after q e = find_own q cs i d distinct (at ∙ ap Some (sym e))

  -- what is found of another id stays, if its counter stays in the column
  pub found_others : ((k : ℕ) → (id.counter == k) ≡ false
      → list_any (λ x. x == k) d.counters.items ≡ list_any (λ x. x == k) c.counters.items)
      → (q : OpId) → q ≢ id → find id_cmp q (standing (set cs i d)) ≡ find id_cmp q (standing cs)
  found_others counters q h = at_test (q.replica == id.replica) refl
    where
      at_test : (b : Bool) → (q.replica == id.replica) ≡ b → find id_cmp q (standing (set cs i d)) ≡ find id_cmp q (standing cs)
      at_test true e =
          let replica : q.replica ≡ id.replica = eqb-true q.replica id.replica e in
          found_after q replica ∙ find-run q d.replica (d.tag, d.index) d.counters.items
          ∙ (λ t. cond ((q.replica == same.replica t) && counters q.counter (other_counter q id h replica) t)
          (Some (same.tag t, same.index t)) None)
          ∙ sym (find-run q c.replica (c.tag, c.index) c.counters.items) ∙ sym (found_before q replica)
      at_test false e = find_beside q cs i d (ap (λ p. q.replica == p) own ∙ e) (at ∙ ap Some (sym own))

-- the replica of the column at a place
pub replica_at : (cs : List ReplicaColumn) (i p : ℕ) (c : ReplicaColumn) → slice_get (replicas_of cs) i ≡ Some p → c ≡ get_or cs i c
    → c.replica ≡ p
replica_at [] i p c at read = absurd (cc)
replica_at (x ∷ cs) zero p c at read = let same : x.replica ≡ p = cc in ap (λ (y : ReplicaColumn). y.replica) read ∙ same
replica_at (x ∷ cs) (suc i) p c at read = replica_at cs i p c at read

-- ---- into the column

module _ (k : ℕ) where
  -- a counter behind others isn't one of them
  pub behind_absent : (ks : List ℕ) → IsTrue (is_rising (ks ++ k ∷ [])) → list_any (λ x. x == k) ks ≡ false
  behind_absent [] r = refl
  behind_absent (x ∷ ks) r =
      let parts = and_parts (below_all nat_cmp x (as_set (ks ++ k ∷ []))) (is_rising (ks ++ k ∷ [])) r in
      let long = length-append ks (k ∷ []) in
      let h = below_at x (ks ++ k ∷ []) (length ks) 0 parts.0 (omega (arith, long)) in
      let last = last_of ks in
      (λ t. ne_eqb x k (λ e. omega (arith, h, e, last)) t || behind_absent ks parts.1 t)
    where
      last_of : (ys : List ℕ) → get_or (ys ++ k ∷ []) (length ys) 0 ≡ k
      last_of [] = refl
      last_of (y ∷ ys) = last_of ys

  -- the counters but this one
  pub others_kept : (j : ℕ) → (k == j) ≡ false → (ks : List ℕ)
      → list_any (λ x. x == j) (filter (λ x. not (x == k)) ks) ≡ list_any (λ x. x == j) ks
  others_kept j other [] = refl
  others_kept j other (x ∷ ks) = at_test (x == k) refl (others_kept j other ks)
    where
      at_test : (b : Bool) → (x == k) ≡ b
          → list_any (λ y. y == j) (filter (λ y. not (y == k)) ks) ≡ list_any (λ y. y == j) ks
          → list_any (λ y. y == j) (cond (not b) (x ∷ filter (λ y. not (y == k)) ks) (filter (λ y. not (y == k)) ks))
          ≡ ((x == j) || list_any (λ y. y == j) ks)
      at_test true e rest = rest ∙ ap (λ b. b || list_any (λ y. y == j) ks)
          (sym (ap (λ y. y == j) (eqb-true x k e) ∙ other))
      at_test false e rest = ap (λ b. (x == j) || b) rest

  pub own_gone : (ks : List ℕ) → list_any (λ x. x == k) (filter (λ x. not (x == k)) ks) ≡ false
  own_gone [] = refl
  own_gone (x ∷ ks) = at_test (x == k) refl (own_gone ks)
    where
      at_test : (b : Bool) → (x == k) ≡ b → list_any (λ y. y == k) (filter (λ y. not (y == k)) ks) ≡ false
          → list_any (λ y. y == k) (cond (not b) (x ∷ filter (λ y. not (y == k)) ks) (filter (λ y. not (y == k)) ks)) ≡ false
      at_test true e rest = rest
      at_test false e rest = (λ t. e t || rest t)

-- ---- an id in its column

module _ (L : Entries Tag) (cs : List ReplicaColumn) (i : ℕ) (c d : ReplicaColumn) (id : OpId) (lt : i < length cs)
    (read : c ≡ get_or cs i c)
    (a : AreApart L cs) (at : slice_get (replicas_of cs) i ≡ Some id.replica) (same : IsSameColumn c d)
    (mine : c.replica ≡ id.replica) where
  found_in : (x : ReplicaColumn) → x.replica ≡ id.replica
      → find id_cmp id (standing_in x) ≡ cond (list_any (λ k. k == id.counter) x.counters.items) (Some (x.tag, x.index)) None
  found_in x own = find-run id x.replica (x.tag, x.index) x.counters.items
      ∙ ap (λ b. cond (b && list_any (λ k. k == id.counter) x.counters.items) (Some (x.tag, x.index)) None) (own_test x.replica own)
    where
      own_test : (p : ℕ) → p ≡ id.replica → (id.replica == p) ≡ true
      own_test p e = grind (arith, tests, e)

  pub nowhere_behind : IsTrue (is_rising (c.counters.items ++ id.counter ∷ [])) → find id_cmp id (standing cs) ≡ None
  nowhere_behind behind = found_before cs i c d id lt read a.distinct at same mine id refl ∙ found_in c mine
      ∙ ap (λ b. cond b (Some (c.tag, c.index)) None) (behind_absent id.counter c.counters.items behind)

  -- ---- a new one behind the others

  module _ (r : IsTrue (is_sorted id_cmp L.entries)) (long : length L.indices ≡ length L.entries)
      (new : find id_cmp id (listed L) ≡ None) (pushed : d.counters.items ≡ c.counters.items ++ id.counter ∷ [])
      (behind : IsTrue (is_rising (c.counters.items ++ id.counter ∷ []))) where
    others : (q : OpId) → q ≢ id → find id_cmp q (standing (set cs i d)) ≡ find id_cmp q (standing cs)
    others = found_others cs i c d id lt read a.distinct at same mine (λ k other.
        ap (list_any (λ x. x == k)) pushed ∙ list_any-append (λ x. x == k) c.counters.items (id.counter ∷ [])
        ∙ ap (λ b. list_any (λ x. x == k) c.counters.items || (b || false)) other ∙ or_false (list_any (λ x. x == k) c.counters.items))
      where
        or_false : (b : Bool) → (b || false) ≡ b
        or_false true = refl
        or_false false = refl

    here : find id_cmp id (standing (set cs i d)) ≡ Some (c.tag, c.index)
    here = found_after cs i c d id lt read a.distinct at same mine id refl ∙ found_in d (same.replica ∙ mine)
        ∙ ap (λ b. cond b (Some (d.tag, d.index)) None)
        (ap (list_any (λ k. k == id.counter)) pushed ∙ list_any-append (λ k. k == id.counter) c.counters.items (id.counter ∷ [])
        ∙ last (list_any (λ k. k == id.counter) c.counters.items) (id.counter == id.counter) (itself id.counter))
        ∙ (λ t. Some (same.tag t, same.index t))
      where
        itself : (k : ℕ) → (k == k) ≡ true
        itself k = grind (arith, tests)

        last : (b e : Bool) → e ≡ true → (b || (e || false)) ≡ true
        last true e h = refl
        last false true h = refl
        last false false h = h

    pub put_in_column : (index : ℕ) → c.index ≡ index
        → all_standing L (set cs i d) ≡ put id_cmp id (c.tag, index_at id index (all_standing L cs)) (all_standing L cs)
    put_in_column index own = is_put id (c.tag, index_at id index (all_standing L cs)) (all_standing L (set cs i d)) (all_standing L cs)
        (all_rising L (set cs i d) r long) (all_rising L cs r long)
        (find-each id (standing (set cs i d)) (listed L) ∙ ap (λ o. option_or o (find id_cmp id (listed L))) here
        ∙ ap (λ n. Some (c.tag, n)) (own
        ∙ ap (λ (o : Option Standing). unwrap_or (option_map (λ s. s.1) o) index)
        (sym (find-each id (standing cs) (listed L) ∙ (λ t. option_or (nowhere_behind behind t) (new t))))))
        (λ q h. find-each q (standing (set cs i d)) (listed L) ∙ ap (λ o. option_or o (find id_cmp q (listed L))) (others q h)
        ∙ sym (find-each q (standing cs) (listed L)))

    pub counted_in_column : (count : ℕ) → All (IsUpTo (all_standing L (set cs i d))) (set cs i d) → AreCounted L cs count
        → count < 4_611_686_018_427_387_904 → AreCounted L (set cs i d) (count + 1)
    counted_in_column count up n most =
        let counted = n.counted in
        let written = length_written cs i c d lt read in
        let more : length d.counters.items ≡ length (c.counters.items ++ id.counter ∷ []) = ap length pushed in
        let longer = length-append c.counters.items (id.counter ∷ []) in
        record {
          apart = record {
            rising = all_set (λ (x : ReplicaColumn). IsTrue (is_rising x.counters.items)) cs i d a.rising (ap is_rising pushed ∙ behind);
            distinct = subst AreDistinct (sym (replicas_written cs i c d id lt read a.distinct at same mine)) a.distinct;
            apart = λ q some. at_test q some (is_same_id q id) refl;
          };
          up_to = up;
          counted = omega (arith, counted, written, more, longer);
          few = omega (arith, most);
        }
      where
        at_test : (q : OpId) → IsSome (find id_cmp q (standing (set cs i d))) → (b : Bool) → is_same_id q id ≡ b
            → find id_cmp q (listed L) ≡ None
        at_test q some true e = ap (λ x. find id_cmp x (listed L)) (ids_from_test q id e) ∙ new
        at_test q some false e =
            let h : q ≢ id = λ same_id. true≢false (sym (id_itself id) ∙ ap (λ x. is_same_id x id) (sym same_id) ∙ e) in
            a.apart q (ap is_some (sym (others q h)) ∙ some)

  -- ---- one that is taken out

  module _ (N : Entries Tag) (tag : Tag) (r : IsTrue (is_sorted id_cmp L.entries)) (long : length L.indices ≡ length L.entries)
      (taken : d.counters.items ≡ filter (λ k. not (k == id.counter)) c.counters.items) where
    gone : find id_cmp id (standing (set cs i d)) ≡ None
    gone = found_after cs i c d id lt read a.distinct at same mine id refl ∙ found_in d (same.replica ∙ mine)
        ∙ ap (λ b. cond b (Some (d.tag, d.index)) None) (ap (list_any (λ k. k == id.counter)) taken
        ∙ own_gone id.counter c.counters.items)

    beside : (q : OpId) → q ≢ id → find id_cmp q (standing (set cs i d)) ≡ find id_cmp q (standing cs)
    beside = found_others cs i c d id lt read a.distinct at same mine (λ k other.
        ap (list_any (λ x. x == k)) taken ∙ others_kept id.counter k other c.counters.items)

    pub counted_late : (own count left n : ℕ) → N.entries ≡ put id_cmp id tag L.entries
        → N.indices ≡ put_index id own (keys_of L.entries) L.indices → All (IsUpTo (all_standing N (set cs i d))) (set cs i d)
        → AreCounted L cs count → length d.counters.items + n ≡ length c.counters.items → left + n ≡ count
        → AreCounted N (set cs i d) left
    counted_late own count left n entries indices up counted fewer less =
        let before = counted.counted in
        let most = counted.few in
        let written = length_written cs i c d lt read in
        record {
          apart = apart_listed L N cs (set cs i d) id own tag r long entries indices gone beside a
              (all_set (λ (x : ReplicaColumn). IsTrue (is_rising x.counters.items)) cs i d a.rising
              (ap is_rising taken ∙ rising_filter (λ k. not (k == id.counter)) c.counters.items
              (ap (λ (x : ReplicaColumn). is_rising x.counters.items) read ∙ a.rising i c lt)))
              (replicas_written cs i c d id lt read a.distinct at same mine);
          up_to = up;
          counted = omega (arith, before, written, fewer, less);
          few = omega (arith, most, less);
        }

    -- it stood there
    module _ (there : true ≡ list_any (λ k. k == id.counter) c.counters.items) (entries : N.entries ≡ put id_cmp id tag L.entries)
        (indices : N.indices ≡ put_index id d.index (keys_of L.entries) L.indices) where
      stood : find id_cmp id (standing cs) ≡ Some (c.tag, c.index)
      stood = found_before cs i c d id lt read a.distinct at same mine id refl ∙ found_in c mine
          ∙ ap (λ b. cond b (Some (c.tag, c.index)) None) (sym there)

      pub put_taken : (index : ℕ)
          → all_standing N (set cs i d) ≡ put id_cmp id (tag, index_at id index (all_standing L cs)) (all_standing L cs)
      put_taken index = put_listed L N cs (set cs i d) id d.index tag r long entries indices gone beside index
          (ap (λ (o : Option Standing). unwrap_or (option_map (λ s. s.1) o) d.index) (a.apart id (ap is_some stood))
          ∙ same.index
          ∙ ap (λ (o : Option Standing). unwrap_or (option_map (λ s. s.1) o) index)
          (sym (find-each id (standing cs) (listed L) ∙ ap (λ o. option_or o (find id_cmp id (listed L))) stood)))

    -- it didn't
    module _ (nowhere : false ≡ list_any (λ k. k == id.counter) c.counters.items) (index : ℕ)
        (entries : N.entries ≡ put id_cmp id tag L.entries)
        (indices : N.indices ≡ put_index id index (keys_of L.entries) L.indices) where
      missing : find id_cmp id (standing cs) ≡ None
      missing = found_before cs i c d id lt read a.distinct at same mine id refl ∙ found_in c mine
          ∙ ap (λ b. cond b (Some (c.tag, c.index)) None) (sym nowhere)

      pub put_missing : all_standing N (set cs i d) ≡ put id_cmp id (tag, index_at id index (all_standing L cs)) (all_standing L cs)
      put_missing = put_listed L N cs (set cs i d) id index tag r long entries indices gone beside index
          (ap (λ (o : Option Standing). unwrap_or (option_map (λ s. s.1) o) index)
          (sym (find-each id (standing cs) (listed L) ∙ ap (λ o. option_or o (find id_cmp id (listed L))) missing)))
