-- What is found among the numbers of columns, one for each replica.
use Rattle.std.proofs.Common.{◌≡◌, refl, sym, ap, ◌∙◌, subst, ℕ, zero, suc, ◌<◌, Bool, true, false, true≢false, cond}
use Rattle.std.proofs.Common.{◌&&◌, ◌||◌}
use Rattle.std.proofs.Common.{◌==◌, IsTrue, List, [], ◌∷◌, ◌++◌, length, get_or, set, slice_get, arith, tests}
use Rattle.std.specs.Prelude.{Option, Some, None}
use Rattle.std.specs.List.{All, list_any}
use Rattle.std.specs.Option.{option_or}
use Rattle.std.specs.Ordering.{nat_cmp}
use Rattle.std.specs.FinMap.{find}
use Rattle.std.specs.FinMap.Entries.{below_all}
use Rattle.std.proofs.lemmas.Bool.{and_parts, eqb-true, ne_eqb}
use Rattle.std.proofs.lemmas.List.{append-nil, append_assoc}
use Rattle.std.proofs.Math.Seq.{map-set_same}
use Rattle.ids.specs.Members.{AreDistinct, is_member}
use Rattle.semantics.specs.Ids.{OpId, id_at, id_cmp, is_same_id}
use Rattle.columns.specs.Rank.{as_set}
use Rattle.columns.specs.NumberColumns.{AreNumberColumns, IsNumberColumn, numbered, numbered_in, numbered_run, numbering}
use Rattle.columns.specs.ReplicaColumns.{is_rising}
use Rattle.columns.specs.declared.number_column.NumberColumn.{NumberColumn}
use Rattle.columns.proofs.ByReplica.{same_parts}
use Rattle.columns.proofs.Counters.{below_at}
use Rattle.columns.proofs.PutEach.{find-both}
use Rattle.columns.proofs.WrittenColumns.{distinct_last}

-- ---- in one column

pub run_other : (q : OpId) (p : ℕ) (ks ns : List ℕ) → (q.replica == p) ≡ false → find id_cmp q (numbered_run p ks ns) ≡ None
run_other q p [] ns other = refl
run_other q p (k ∷ ks) [] other = refl
run_other q p (k ∷ ks) (n ∷ ns) other =
    ap (λ b. cond b (Some n) (find id_cmp q (numbered_run p ks ns))) (same_parts q k p ∙ ap (λ b. b && (k == q.counter)) other)
    ∙ run_other q p ks ns other

pub run_absent : (q : OpId) (p : ℕ) (ks ns : List ℕ) → list_any (λ k. k == q.counter) ks ≡ false
    → find id_cmp q (numbered_run p ks ns) ≡ None
run_absent q p [] ns none = refl
run_absent q p (k ∷ ks) [] none = refl
run_absent q p (k ∷ ks) (n ∷ ns) none =
    let parts = neither (k == q.counter) (list_any (λ j. j == q.counter) ks) none in
    ap (λ b. cond b (Some n) (find id_cmp q (numbered_run p ks ns))) (same_parts q k p ∙ ap (λ b. (q.replica == p) && b) parts.0
    ∙ no (q.replica == p))
    ∙ run_absent q p ks ns parts.1
  where
    neither : (a b : Bool) → (a || b) ≡ false → (a ≡ false) × (b ≡ false)
    neither true b h = absurd (true≢false h)
    neither false b h = (refl, h)

    no : (b : Bool) → (b && false) ≡ false
    no true = refl
    no false = refl

-- the number of the counter at a position
pub run_at : (q : OpId) (ks ns : List ℕ) (i : ℕ) → IsTrue (is_rising ks) → length ns ≡ length ks → i < length ks
    → get_or ks i 0 ≡ q.counter → find id_cmp q (numbered_run q.replica ks ns) ≡ Some (get_or ns i 0)
run_at q [] ns i r long lt at = absurd (omega arith)
run_at q (k ∷ ks) [] i r long lt at = absurd (omega (arith, long))
run_at q (k ∷ ks) (n ∷ ns) zero r long lt at =
    ap (λ b. cond b (Some n) (find id_cmp q (numbered_run q.replica ks ns))) (same_parts q k q.replica ∙ both q.replica k q.counter at)
  where
    both : (p a b : ℕ) → a ≡ b → ((p == p) && (a == b)) ≡ true
    both p a b e = grind (arith, tests, e)
run_at q (k ∷ ks) (n ∷ ns) (suc i) r long lt at =
    let parts = and_parts (below_all nat_cmp k (as_set ks)) (is_rising ks) r in
    let h = below_at k ks i 0 parts.0 (omega arith) in
    ap (λ b. cond b (Some n) (find id_cmp q (numbered_run q.replica ks ns))) (same_parts q k q.replica
    ∙ ap (λ b. (q.replica == q.replica) && b) (ne_eqb k q.counter (λ e. omega (arith, h, at, e))) ∙ no (q.replica == q.replica))
    ∙ run_at q ks ns i parts.1 (omega (arith, long)) (omega arith) at
  where
    no : (b : Bool) → (b && false) ≡ false
    no true = refl
    no false = refl

pub run_push : (p : ℕ) (ks ns : List ℕ) (k n : ℕ) → length ns ≡ length ks
    → numbered_run p (ks ++ k ∷ []) (ns ++ n ∷ []) ≡ numbered_run p ks ns ++ (id_at k p, n) ∷ []
run_push p [] [] k n long = refl
run_push p [] (m ∷ ns) k n long = absurd (omega (arith, long))
run_push p (j ∷ ks) [] k n long = absurd (omega (arith, long))
run_push p (j ∷ ks) (m ∷ ns) k n long = ap (λ l. (id_at j p, m) ∷ l) (run_push p ks ns k n (omega (arith, long)))

-- another id keeps its number
pub run_set : (q : OpId) (p : ℕ) (ks ns : List ℕ) (i n : ℕ) → i < length ks → is_same_id q (id_at (get_or ks i 0) p) ≡ false
    → find id_cmp q (numbered_run p ks (set ns i n)) ≡ find id_cmp q (numbered_run p ks ns)
run_set q p [] ns i n lt other = absurd (omega arith)
run_set q p (k ∷ ks) [] i n lt other = refl
run_set q p (k ∷ ks) (m ∷ ns) zero n lt other =
    ap (λ b. cond b (Some n) (find id_cmp q (numbered_run p ks ns))) other
    ∙ sym (ap (λ b. cond b (Some m) (find id_cmp q (numbered_run p ks ns))) other)
run_set q p (k ∷ ks) (m ∷ ns) (suc i) n lt other =
    ap (cond (is_same_id q (id_at k p)) (Some m)) (run_set q p ks ns i n (omega arith) other)

-- ---- in all of them

pub no_column : (q : OpId) (cs : List NumberColumn) → is_member (numbering cs) q.replica ≡ false → find id_cmp q (numbered cs) ≡ None
no_column q [] none = refl
no_column q (c ∷ cs) none =
    let parts = neither (c.replica == q.replica) (is_member (numbering cs) q.replica) none in
    find-both q (numbered_in c) (numbered cs)
    ∙ ap (λ o. option_or o (find id_cmp q (numbered cs))) (run_other q c.replica c.counters.items c.numbers.items
    (turned c.replica q.replica parts.0))
    ∙ no_column q cs parts.1
  where
    neither : (a b : Bool) → (a || b) ≡ false → (a ≡ false) × (b ≡ false)
    neither true b h = absurd (true≢false h)
    neither false b h = (refl, h)

    turned : (a b : ℕ) → (a == b) ≡ false → (b == a) ≡ false
    turned a b h = grind (arith, tests, h)

same_test : (a b : ℕ) → a ≡ b → (a == b) ≡ true
same_test a b e = grind (arith, tests, e)

member_at : (p : ℕ) (ps : List ℕ) (i : ℕ) → slice_get ps i ≡ Some p → is_member ps p ≡ true
member_at p [] i at = absurd (cc)
member_at p (x ∷ ps) zero at = let same : x ≡ p = cc in ap (λ b. b || is_member ps p) (same_test x p same)
member_at p (x ∷ ps) (suc i) at = at_test (x == p) (member_at p ps i at)
  where
    at_test : (b : Bool) → is_member ps p ≡ true → (b || is_member ps p) ≡ true
    at_test true h = refl
    at_test false h = h

pub own_number : (q : OpId) (cs : List NumberColumn) (i : ℕ) (d : NumberColumn) → AreDistinct (numbering cs)
    → slice_get (numbering cs) i ≡ Some q.replica
    → find id_cmp q (numbered (set cs i d)) ≡ find id_cmp q (numbered_in d)
own_number q [] i d distinct at = absurd (cc)
own_number q (c ∷ cs) zero d distinct at =
    let same : c.replica ≡ q.replica = cc in
    find-both q (numbered_in d) (numbered cs)
    ∙ ap (option_or (find id_cmp q (numbered_in d))) (no_column q cs (no_member (is_member (numbering cs) q.replica)
    (λ h. distinct.0 (ap (is_member (numbering cs)) same ∙ h))))
    ∙ or_none (find id_cmp q (numbered_in d))
  where
    no_member : (b : Bool) → (b ≡ true → ⊥) → b ≡ false
    no_member true h = absurd (h refl)
    no_member false h = refl

    or_none : (o : Option ℕ) → option_or o None ≡ o
    or_none None = refl
    or_none (Some x) = refl
own_number q (c ∷ cs) (suc i) d distinct at =
    find-both q (numbered_in c) (numbered (set cs i d))
    ∙ ap (λ o. option_or o (find id_cmp q (numbered (set cs i d)))) (run_other q c.replica c.counters.items c.numbers.items
    (at_test (q.replica == c.replica) refl))
    ∙ own_number q cs i d distinct.1 at
  where
    at_test : (b : Bool) → (q.replica == c.replica) ≡ b → b ≡ false
    at_test false h = refl
    at_test true h = absurd (distinct.0 (ap (is_member (numbering cs)) (sym (eqb-true q.replica c.replica h))
        ∙ member_at q.replica (numbering cs) i at))

beside_number : (q : OpId) (cs : List NumberColumn) (i : ℕ) (d : NumberColumn) → (q.replica == d.replica) ≡ false
    → slice_get (numbering cs) i ≡ Some d.replica
    → find id_cmp q (numbered (set cs i d)) ≡ find id_cmp q (numbered cs)
beside_number q [] i d other at = refl
beside_number q (c ∷ cs) zero d other at =
    let same : c.replica ≡ d.replica = cc in
    find-both q (numbered_in d) (numbered cs)
    ∙ ap (λ o. option_or o (find id_cmp q (numbered cs))) (run_other q d.replica d.counters.items d.numbers.items other
    ∙ sym (run_other q c.replica c.counters.items c.numbers.items (ap (λ p. q.replica == p) same ∙ other)))
    ∙ sym (find-both q (numbered_in c) (numbered cs))
beside_number q (c ∷ cs) (suc i) d other at =
    find-both q (numbered_in c) (numbered (set cs i d))
    ∙ ap (option_or (find id_cmp q (numbered_in c))) (beside_number q cs i d other at)
    ∙ sym (find-both q (numbered_in c) (numbered cs))

read_again : (cs : List NumberColumn) (i : ℕ) (c : NumberColumn) → i < length cs → c ≡ get_or cs i c → set cs i c ≡ cs
read_again [] i c lt read = absurd (omega arith)
read_again (x ∷ cs) zero c lt read = ap (λ y. y ∷ cs) read
read_again (x ∷ cs) (suc i) c lt read = ap (λ ys. x ∷ ys) (read_again cs i c (omega arith) read)

pub number_of_replica : (cs : List NumberColumn) (i p : ℕ) (c : NumberColumn) → slice_get (numbering cs) i ≡ Some p → c ≡ get_or cs i c
    → c.replica ≡ p
number_of_replica [] i p c at read = absurd (cc)
number_of_replica (x ∷ cs) zero p c at read = let same : x.replica ≡ p = cc in ap (λ (y : NumberColumn). y.replica) read ∙ same
number_of_replica (x ∷ cs) (suc i) p c at read = number_of_replica cs i p c at read

each_set : (cs : List NumberColumn) (i : ℕ) (d : NumberColumn) → All IsNumberColumn cs → IsNumberColumn d → All IsNumberColumn (set cs i d)
each_set [] i d all here = all
each_set (x ∷ cs) zero d all here = λ k e lt. first k e lt
  where
    first : (k : ℕ) (e : NumberColumn) → k < suc (length cs) → IsNumberColumn (get_or (d ∷ cs) k e)
    first zero e lt = here
    first (suc k) e lt = all (suc k) e lt
each_set (x ∷ cs) (suc i) d all here = later (each_set cs i d (λ k e lt. all (suc k) e (omega arith)) here)
  where
    later : All IsNumberColumn (set cs i d) → (k : ℕ) (e : NumberColumn) → k < suc (length (set cs i d))
        → IsNumberColumn (get_or (x ∷ set cs i d) k e)
    later rest zero e lt = all zero e (omega arith)
    later rest (suc k) e lt = rest k e (omega arith)

-- ---- a column that is written

module _ (cs : List NumberColumn) (i : ℕ) (c d : NumberColumn) (id : OpId) (lt : i < length cs) (read : c ≡ get_or cs i c)
    (a : AreNumberColumns cs) (at : slice_get (numbering cs) i ≡ Some id.replica) (same : d.replica ≡ c.replica) where
  mine : c.replica ≡ id.replica
  mine = number_of_replica cs i id.replica c at read

  pub number_before : find id_cmp id (numbered cs) ≡ find id_cmp id (numbered_in c)
  number_before = ap (λ xs. find id_cmp id (numbered xs)) (sym (read_again cs i c lt read)) ∙ own_number id cs i c a.distinct at

  pub number_after : find id_cmp id (numbered (set cs i d)) ≡ find id_cmp id (numbered_in d)
  number_after = own_number id cs i d a.distinct at

  -- what is found of others stays, if it does in the column
  pub number_others : ((q : OpId) → is_same_id q id ≡ false → find id_cmp q (numbered_in d) ≡ find id_cmp q (numbered_in c))
      → (q : OpId) → is_same_id q id ≡ false → find id_cmp q (numbered (set cs i d)) ≡ find id_cmp q (numbered cs)
  number_others stays q other = at_test (q.replica == id.replica) refl
    where
      at_test : (b : Bool) → (q.replica == id.replica) ≡ b → find id_cmp q (numbered (set cs i d)) ≡ find id_cmp q (numbered cs)
      at_test true e =
          let replica : q.replica ≡ id.replica = eqb-true q.replica id.replica e in
          own_number q cs i d a.distinct (at ∙ ap Some (sym replica)) ∙ stays q other
          ∙ sym (own_number q cs i c a.distinct (at ∙ ap Some (sym replica)))
          ∙ ap (λ xs. find id_cmp q (numbered xs)) (read_again cs i c lt read)
      at_test false e = beside_number q cs i d (ap (λ p. q.replica == p) (same ∙ mine) ∙ e) (at ∙ ap Some (sym (same ∙ mine)))

  pub written_columns : IsNumberColumn d → AreNumberColumns (set cs i d)
  written_columns here = record {
    each = each_set cs i d a.each here;
    distinct = subst AreDistinct
        (sym (map-set_same (λ (x : NumberColumn). x.replica) cs i d c (same ∙ ap (λ (x : NumberColumn). x.replica) read))) a.distinct;
  }

-- ---- one more column

numbered-append : (xs ys : List NumberColumn) → numbered (xs ++ ys) ≡ numbered xs ++ numbered ys
numbered-append [] ys = refl
numbered-append (x ∷ xs) ys = ap (λ l. numbered_in x ++ l) (numbered-append xs ys)
    ∙ sym (append_assoc (numbered_in x) (numbered xs) (numbered ys))

pub numbered_more : (cs : List NumberColumn) (d : NumberColumn) → d.counters.items ≡ [] → numbered (cs ++ d ∷ []) ≡ numbered cs
numbered_more cs d empty = numbered-append cs (d ∷ [])
    ∙ ap (λ ks. numbered cs ++ (numbered_run d.replica ks d.numbers.items ++ [])) empty ∙ append-nil (numbered cs)

pub numbered_same : (cs : List NumberColumn) (i : ℕ) (c d : NumberColumn) → c ≡ get_or cs i c → numbered_in d ≡ numbered_in c
    → numbered (set cs i d) ≡ numbered cs
numbered_same [] i c d read same = refl
numbered_same (x ∷ cs) zero c d read same = ap (λ l. l ++ numbered cs) (same ∙ ap numbered_in read)
numbered_same (x ∷ cs) (suc i) c d read same = ap (λ l. numbered_in x ++ l) (numbered_same cs i c d read same)

each_last : (cs : List NumberColumn) (d : NumberColumn) → All IsNumberColumn cs → IsNumberColumn d → All IsNumberColumn (cs ++ d ∷ [])
each_last [] d all here = λ k e lt. only k e lt
  where
    only : (k : ℕ) (e : NumberColumn) → k < 1 → IsNumberColumn (get_or (d ∷ []) k e)
    only zero e lt = here
    only (suc k) e lt = absurd (omega arith)
each_last (x ∷ cs) d all here = later (each_last cs d (λ k e lt. all (suc k) e (omega arith)) here)
  where
    later : All IsNumberColumn (cs ++ d ∷ []) → (k : ℕ) (e : NumberColumn) → k < suc (length (cs ++ d ∷ []))
        → IsNumberColumn (get_or (x ∷ (cs ++ d ∷ [])) k e)
    later rest zero e lt = all zero e (omega arith)
    later rest (suc k) e lt = rest k e (omega arith)

-- an empty column of a replica that has none
pub more_columns : (cs : List NumberColumn) (d : NumberColumn) → d.counters.items ≡ [] → d.numbers.items ≡ []
    → is_member (numbering cs) d.replica ≡ false → AreNumberColumns cs → AreNumberColumns (cs ++ d ∷ [])
more_columns cs d counters numbers none a = record {
  each = each_last cs d a.each (record {
    rising = ap is_rising counters;
    long = ap (λ (ns : List ℕ). length ns) numbers ∙ sym (ap (λ (ks : List ℕ). length ks) counters);
  });
  distinct = subst AreDistinct (sym (last cs)) (distinct_last (numbering cs) d.replica a.distinct none);
}
  where
    last : (xs : List NumberColumn) → numbering (xs ++ d ∷ []) ≡ numbering xs ++ d.replica ∷ []
    last [] = refl
    last (x ∷ xs) = ap (λ l. x.replica ∷ l) (last xs)

-- room in a column
pub same_columns : (cs : List NumberColumn) (i : ℕ) (c d : NumberColumn) → i < length cs → c ≡ get_or cs i c → AreNumberColumns cs
    → d.replica ≡ c.replica → d.counters.items ≡ c.counters.items → d.numbers.items ≡ c.numbers.items → AreNumberColumns (set cs i d)
same_columns cs i c d lt read a same counters numbers =
    let here : IsNumberColumn c = subst IsNumberColumn (sym read) (a.each i c lt) in
    record {
      each = each_set cs i d a.each (record {
        rising = ap is_rising counters ∙ here.rising;
        long = ap (λ (ns : List ℕ). length ns) numbers ∙ here.long ∙ sym (ap (λ (ks : List ℕ). length ks) counters);
      });
      distinct = subst AreDistinct
          (sym (map-set_same (λ (x : NumberColumn). x.replica) cs i d c (same ∙ ap (λ (x : NumberColumn). x.replica) read))) a.distinct;
    }
