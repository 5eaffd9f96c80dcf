-- Columns that are written as a whole, or of which one is new.
use Rattle.std.proofs.Common.{◌≡◌, refl, sym, ap, ◌∙◌, subst, ℕ, zero, suc, ◌<◌, Bool, true, false, true≢false, cond}
use Rattle.std.proofs.Common.{◌||◌, ◌==◌}
use Rattle.std.proofs.Common.{IsTrue, List, [], ◌∷◌, ◌++◌, length, get_or, set, take, arith, tests}
use Rattle.std.specs.Prelude.{is_some}
use Rattle.std.specs.List.{All, filter}
use Rattle.std.specs.FinMap.{find}
use Rattle.std.proofs.Math.Seq.{map-set_same}
use Rattle.std.proofs.lemmas.List.{append-nil, append_assoc}
use Rattle.std.proofs.lemmas.List.Elements.{filter-append}
use Rattle.ids.specs.Members.{AreDistinct, is_member}
use Rattle.semantics.specs.Ids.{OpId, id_at, id_cmp}
use Rattle.cursor.specs.declared.tag.Tag.{Tag}
use Rattle.columns.specs.Entries.{Entries}
use Rattle.columns.specs.ReplicaColumns.{AreApart, IsSameColumn, Standing, is_rising, replicas_of, standing, standing_in}
use Rattle.columns.specs.declared.replica_column.ReplicaColumn.{ReplicaColumn}
use Rattle.columns.proofs.ByReplica.{run}
use Rattle.columns.proofs.StandingPuts.{all_set}

pub standing-append : (xs ys : List ReplicaColumn) → standing (xs ++ ys) ≡ standing xs ++ standing ys
standing-append [] ys = refl
standing-append (x ∷ xs) ys = ap (λ l. standing_in x ++ l) (standing-append xs ys)
    ∙ sym (append_assoc (standing_in x) (standing xs) (standing ys))

-- the same counters in a column
pub same_column : (c d : ReplicaColumn) → IsSameColumn c d → d.counters.items ≡ c.counters.items → standing_in d ≡ standing_in c
same_column c d same counters = λ i. run (same.replica i) (same.tag i, same.index i) (counters i)

pub standing_set_same : (cs : List ReplicaColumn) (i : ℕ) (c d : ReplicaColumn) → c ≡ get_or cs i c → standing_in d ≡ standing_in c
    → standing (set cs i d) ≡ standing cs
standing_set_same [] i c d read same = refl
standing_set_same (x ∷ cs) zero c d read same =
    ap (λ l. l ++ standing cs) (same ∙ ap standing_in read)
standing_set_same (x ∷ cs) (suc i) c d read same = ap (λ l. standing_in x ++ l) (standing_set_same cs i c d read same)

pub distinct_last : (ps : List ℕ) (p : ℕ) → AreDistinct ps → is_member ps p ≡ false → AreDistinct (ps ++ p ∷ [])
distinct_last [] p d none = (λ h. true≢false (sym h), tt)
distinct_last (q ∷ ps) p d none =
    let parts = or_parts_false (q == p) (is_member ps p) none in (
      λ h. d.0 (sym (member_last ps p q (turned q p parts.0)) ∙ h),
      distinct_last ps p d.1 parts.1,
    )
  where
    or_parts_false : (a b : Bool) → (a || b) ≡ false → (a ≡ false) × (b ≡ false)
    or_parts_false true b h = absurd (true≢false h)
    or_parts_false false b h = (refl, h)

    turned : (a b : ℕ) → (a == b) ≡ false → (b == a) ≡ false
    turned a b h = grind (arith, tests, h)

    member_last : (qs : List ℕ) (p r : ℕ) → (p == r) ≡ false → is_member (qs ++ p ∷ []) r ≡ is_member qs r
    member_last [] p r other = ap (λ b. b || false) other
    member_last (s ∷ qs) p r other = ap (λ b. (s == r) || b) (member_last qs p r other)

-- an empty column of a replica that has none
pub standing_push : (cs : List ReplicaColumn) (d : ReplicaColumn) → d.counters.items ≡ [] → standing (cs ++ d ∷ []) ≡ standing cs
standing_push cs d empty = standing-append cs (d ∷ [])
    ∙ ap (λ ks. standing cs ++ (run d.replica (d.tag, d.index) ks ++ [])) empty ∙ append-nil (standing cs)

pub all_last : (P : ReplicaColumn → Type 0) (cs : List ReplicaColumn) (d : ReplicaColumn) → All P cs → P d → All P (cs ++ d ∷ [])
all_last P [] d all here = λ k e lt. only k e lt
  where
    only : (k : ℕ) (e : ReplicaColumn) → k < 1 → P (get_or (d ∷ []) k e)
    only zero e lt = here
    only (suc k) e lt = absurd (omega arith)
all_last P (x ∷ cs) d all here = later (all_last P cs d (λ k e lt. all (suc k) e (omega arith)) here)
  where
    later : All P (cs ++ d ∷ []) → (k : ℕ) (e : ReplicaColumn) → k < suc (length (cs ++ d ∷ [])) → P (get_or (x ∷ (cs ++ d ∷ [])) k e)
    later rest zero e lt = all zero e (omega arith)
    later rest (suc k) e lt = rest k e (omega arith)

pub apart_push : (L : Entries Tag) (cs : List ReplicaColumn) (d : ReplicaColumn) → d.counters.items ≡ []
    → is_member (replicas_of cs) d.replica ≡ false → AreApart L cs → AreApart L (cs ++ d ∷ [])
apart_push L cs d empty none a = record {
  rising = all_last (λ (c : ReplicaColumn). IsTrue (is_rising c.counters.items)) cs d a.rising (ap is_rising empty);
  distinct = subst AreDistinct (sym (replicas_last cs)) (distinct_last (replicas_of cs) d.replica a.distinct none);
  apart = λ q some. a.apart q (ap (λ l. is_some (find id_cmp q l)) (sym (standing_push cs d empty)) ∙ some);
}
  where
    replicas_last : (xs : List ReplicaColumn) → replicas_of (xs ++ d ∷ []) ≡ replicas_of xs ++ d.replica ∷ []
    replicas_last [] = refl
    replicas_last (x ∷ xs) = ap (λ l. x.replica ∷ l) (replicas_last xs)

-- room in a column
pub apart_set_same : (L : Entries Tag) (cs : List ReplicaColumn) (i : ℕ) (c d : ReplicaColumn) → i < length cs → c ≡ get_or cs i c
    → IsSameColumn c d → d.counters.items ≡ c.counters.items → AreApart L cs → AreApart L (set cs i d)
apart_set_same L cs i c d lt read same counters a = record {
  rising = all_set (λ (x : ReplicaColumn). IsTrue (is_rising x.counters.items)) cs i d a.rising
      (ap is_rising counters ∙ ap (λ (x : ReplicaColumn). is_rising x.counters.items) read ∙ a.rising i c lt);
  distinct = subst AreDistinct
      (sym (map-set_same (λ (x : ReplicaColumn). x.replica) cs i d c
      (same.replica ∙ ap (λ (x : ReplicaColumn). x.replica) read))) a.distinct;
  apart = λ q some. a.apart q
      (ap (λ l. is_some (find id_cmp q l)) (sym (standing_set_same cs i c d read (same_column c d same counters))) ∙ some);
}

-- ---- each column filtered in turn

filter_twice : {X : Type 0} (p : X → Bool) (xs : List X) → filter p (filter p xs) ≡ filter p xs
filter_twice p [] = refl
filter_twice p (x ∷ xs) = at_test (p x) refl (filter_twice p xs)
  where
    at_test : (b : Bool) → p x ≡ b → filter p (filter p xs) ≡ filter p xs
        → filter p (cond b (x ∷ filter p xs) (filter p xs)) ≡ cond b (x ∷ filter p xs) (filter p xs)
    at_test true e h = ap (λ b. cond b (x ∷ filter p (filter p xs)) (filter p (filter p xs))) e ∙ ap (λ l. x ∷ l) h
    at_test false e h = h

filter-run : (t : OpId × Standing → Bool) (p : ℕ) (s : Standing) (ks : List ℕ)
    → filter t (run p s ks) ≡ run p s (filter (λ k. t (id_at k p, s)) ks)
filter-run t p s [] = refl
filter-run t p s (k ∷ ks) = at_test (t (id_at k p, s)) (filter-run t p s ks)
  where
    at_test : (b : Bool) → filter t (run p s ks) ≡ run p s (filter (λ j. t (id_at j p, s)) ks)
        → cond b ((id_at k p, s) ∷ filter t (run p s ks)) (filter t (run p s ks))
        ≡ run p s (cond b (k ∷ filter (λ j. t (id_at j p, s)) ks) (filter (λ j. t (id_at j p, s)) ks))
    at_test true h = ap (λ l. (id_at k p, s) ∷ l) h
    at_test false h = h

module _ (t : OpId × Standing → Bool) where
  pub filter_column : (c d : ReplicaColumn) → IsSameColumn c d
      → d.counters.items ≡ filter (λ k. t (id_at k c.replica, (c.tag, c.index))) c.counters.items → standing_in d ≡ filter t (standing_in c)
  filter_column c d same kept = (λ i. run (same.replica i) (same.tag i, same.index i) (kept i))
      ∙ sym (filter-run t c.replica (c.tag, c.index) c.counters.items)

  -- all of them filtered is what it was
  pub filtered_all : (cs : List ReplicaColumn) (i : ℕ) (c d : ReplicaColumn) → c ≡ get_or cs i c → standing_in d ≡ filter t (standing_in c)
      → filter t (standing (set cs i d)) ≡ filter t (standing cs)
  filtered_all [] i c d read kept = refl
  filtered_all (x ∷ cs) zero c d read kept =
      filter-append t (standing_in d) (standing cs)
      ∙ ap (λ l. l ++ filter t (standing cs))
      (ap (filter t) kept ∙ filter_twice t (standing_in c) ∙ ap (λ y. filter t (standing_in y)) read)
      ∙ sym (filter-append t (standing_in x) (standing cs))
  filtered_all (x ∷ cs) (suc i) c d read kept =
      filter-append t (standing_in x) (standing (set cs i d))
      ∙ ap (λ l. filter t (standing_in x) ++ l) (filtered_all cs i c d read kept)
      ∙ sym (filter-append t (standing_in x) (standing cs))

  -- those up to this one are filtered
  pub filtered_next : (cs : List ReplicaColumn) (i : ℕ) (c d : ReplicaColumn) → i < length cs → standing_in d ≡ filter t (standing_in c)
      → filter t (standing (take i cs)) ≡ standing (take i cs)
      → filter t (standing (take (suc i) (set cs i d))) ≡ standing (take (suc i) (set cs i d))
  filtered_next cs i c d lt kept so_far =
      ap (λ l. filter t (standing l)) (take_set cs i lt)
      ∙ ap (filter t) (standing-append (take i cs) (d ∷ [])) ∙ filter-append t (standing (take i cs)) (standing_in d ++ [])
      ∙ (λ j. so_far j ++ (ap (filter t) (append-nil (standing_in d) ∙ kept) ∙ filter_twice t (standing_in c) ∙ sym kept
      ∙ sym (append-nil (standing_in d))) j)
      ∙ sym (standing-append (take i cs) (d ∷ [])) ∙ ap standing (sym (take_set cs i lt))
    where
      take_set : (xs : List ReplicaColumn) (j : ℕ) → j < length xs → take (suc j) (set xs j d) ≡ take j xs ++ d ∷ []
      take_set [] j lt = absurd (omega arith)
      take_set (x ∷ xs) zero lt = refl
      take_set (x ∷ xs) (suc j) lt = ap (λ l. x ∷ l) (take_set xs j (omega arith))
