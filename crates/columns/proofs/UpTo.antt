-- The bound that a column knows of its replica's counters.
use Rattle.std.proofs.Common.{◌≡◌, ◌≢◌, refl, sym, ap, ◌∙◌, subst, ℕ, zero, suc, ◌<◌, ◌≤◌, Bool, true, false, true≢false, cond, ◌&&◌, ◌||◌}
use Rattle.std.proofs.Common.{◌==◌, IsTrue, List, [], ◌∷◌, ◌++◌, length, get_or, set, slice_get, arith}
use Rattle.std.specs.Prelude.{Option, Some, None, is_some, IsSome}
use Rattle.std.specs.List.{All, list_any}
use Rattle.std.specs.Option.{option_or}
use Rattle.std.specs.FinMap.{find, put}
use Rattle.std.specs.FinMap.Entries.{find-put}
use Rattle.ids.specs.Members.{AreDistinct, is_member}
use Rattle.semantics.specs.Ids.{OpId, id_at, id_cmp, is_same_id}
use Rattle.semantics.proofs.Orders.{id_total, ids_from_test}
use Rattle.cursor.specs.declared.tag.Tag.{Tag}
use Rattle.columns.specs.Entries.{Entries}
use Rattle.columns.specs.Rank.{has_key, keys_of}
use Rattle.columns.specs.ReplicaColumns.{AreApart, IsUpTo, Standing, all_standing, is_rising, replicas_of, standing}
use Rattle.columns.specs.declared.replica_column.ReplicaColumn.{ReplicaColumn}
use Rattle.columns.proofs.ByReplica.{find-run, find_no_column, member_at, same_test}
use Rattle.columns.proofs.Counters.{rising_last}
use Rattle.columns.proofs.PutEach.{find-each}
use Rattle.columns.proofs.ListPuts.{absent_with}
use Rattle.columns.proofs.StandingPuts.{all_set, found_before, listed}
use Rattle.columns.proofs.WrittenColumns.{all_last}

-- ---- what is put

pub up_to_put : (m : List (OpId × Standing)) (id : OpId) (s : Standing) (c : ReplicaColumn) → IsUpTo m c
    → (id.replica ≡ c.replica → id.counter ≤ c.greatest) → IsUpTo (put id_cmp id s m) c
up_to_put m id s c old here q mine some = at_test (is_same_id q id) refl
  where
    at_test : (b : Bool) → is_same_id q id ≡ b → q.counter ≤ c.greatest
    at_test true same =
        let e : q ≡ id = ids_from_test q id same in
        subst (λ (x : OpId). x.counter ≤ c.greatest) (sym e) (here (ap (λ (x : OpId). x.replica) (sym e) ∙ mine))
    at_test false other = old q mine (ap is_some
        (sym (find-put id_cmp id_total q id s m ∙ ap (λ b. cond b (Some s) (find id_cmp q m)) other)) ∙ some)

module _ (P : ReplicaColumn → Type 0) (p : ℕ) where
  joined : (c : ReplicaColumn) (cs : List ReplicaColumn) → P c → All P cs → All P (c ∷ cs)
  joined c cs here rest zero d lt = here
  joined c cs here rest (suc k) d lt = rest k d (omega arith)

  -- what holds of the columns of other replicas holds of all, where this one has none
  all_others : (cs : List ReplicaColumn) → is_member (replicas_of cs) p ≡ false → All (λ (c : ReplicaColumn). c.replica ≢ p → P c) cs
      → All P cs
  all_others [] none all = λ k d lt. absurd (omega arith)
  all_others (c ∷ cs) none all =
      let parts = both_false (c.replica == p) (is_member (replicas_of cs) p) none in
      joined c cs (all zero c (omega arith) (λ e. true≢false (sym (same_test c.replica p e) ∙ parts.0)))
      (all_others cs parts.1 (λ k d lt. all (suc k) d (omega arith)))
    where
      both_false : (a b : Bool) → (a || b) ≡ false → (a ≡ false) × (b ≡ false)
      both_false true b h = absurd (true≢false h)
      both_false false b h = (refl, h)

  -- or where its own is written
  all_written : (cs : List ReplicaColumn) (i : ℕ) (d : ReplicaColumn) → AreDistinct (replicas_of cs)
      → slice_get (replicas_of cs) i ≡ Some p → All (λ (c : ReplicaColumn). c.replica ≢ p → P c) cs → P d → All P (set cs i d)
  all_written [] i d distinct at all here = absurd (cc)
  all_written (c ∷ cs) zero d distinct at all here = joined d cs here
      (all_others cs (none (is_member (replicas_of cs) p) refl) (λ k e lt. all (suc k) e (omega arith)))
    where
      none : (b : Bool) → is_member (replicas_of cs) p ≡ b → b ≡ false
      none true h = let same : c.replica ≡ p = cc in absurd (distinct.0 (ap (is_member (replicas_of cs)) same ∙ h))
      none false h = refl
  all_written (c ∷ cs) (suc i) d distinct at all here =
      joined c (set cs i d)
      (all zero c (omega arith) (λ e. distinct.0 (ap (is_member (replicas_of cs)) e ∙ member_at p (replicas_of cs) i at)))
      (all_written cs i d distinct.1 at (λ k e lt. all (suc k) e (omega arith)) here)

module _ (m new : List (OpId × Standing)) (id : OpId) (s : Standing) (is : new ≡ put id_cmp id s m) (cs : List ReplicaColumn)
    (all : All (IsUpTo m) cs) where
  others : All (λ (c : ReplicaColumn). c.replica ≢ id.replica → IsUpTo new c) cs
  others k d lt other = subst (λ l. IsUpTo l (get_or cs k d)) (sym is)
      (up_to_put m id s (get_or cs k d) (all k d lt) (λ mine. absurd (other (sym mine))))

  pub up_to_beside : is_member (replicas_of cs) id.replica ≡ false → All (IsUpTo new) cs
  up_to_beside none = all_others (IsUpTo new) id.replica cs none others

  pub up_to_written : (i : ℕ) (c d : ReplicaColumn) → i < length cs → c ≡ get_or cs i c → AreDistinct (replicas_of cs)
      → slice_get (replicas_of cs) i ≡ Some id.replica → d.replica ≡ c.replica → c.greatest ≤ d.greatest → id.counter ≤ d.greatest
      → All (IsUpTo new) (set cs i d)
  up_to_written i c d lt read distinct at same more own = all_written (IsUpTo new) id.replica cs i d distinct at others
      (subst (λ l. IsUpTo l d) (sym is) (up_to_put m id s d higher (λ mine. own)))
    where
      higher : IsUpTo m d
      higher q mine some =
          let before : IsUpTo m c = subst (IsUpTo m) (sym read) (all i c lt) in
          let h = before q (mine ∙ same) some in
          omega (arith, h, more)

-- ---- columns that change

-- one that keeps its replica and its bound
pub up_to_set_same : (m : List (OpId × Standing)) (cs : List ReplicaColumn) (i : ℕ) (c d : ReplicaColumn) → i < length cs
    → c ≡ get_or cs i c → d.replica ≡ c.replica → d.greatest ≡ c.greatest → All (IsUpTo m) cs → All (IsUpTo m) (set cs i d)
up_to_set_same m cs i c d lt read same greatest all = all_set (IsUpTo m) cs i d all mine
  where
    mine : IsUpTo m d
    mine q own some =
        let before : IsUpTo m c = subst (IsUpTo m) (sym read) (all i c lt) in
        let h = before q (own ∙ same) some in
        omega (arith, h, greatest)

-- one more, whose bound is that of the list
pub up_to_push : (L : Entries Tag) (cs : List ReplicaColumn) (d : ReplicaColumn) → is_member (replicas_of cs) d.replica ≡ false
    → ((q : OpId) → q.replica ≡ d.replica → IsTrue (has_key id_cmp q (keys_of L.entries)) → q.counter ≤ d.greatest)
    → All (IsUpTo (all_standing L cs)) cs → All (IsUpTo (all_standing L cs)) (cs ++ d ∷ [])
up_to_push L cs d none seen all = all_last (IsUpTo (all_standing L cs)) cs d all mine
  where
    mine : IsUpTo (all_standing L cs) d
    mine q own some = at_key (has_key id_cmp q (keys_of L.entries)) refl
      where
        only_listed : find id_cmp q (all_standing L cs) ≡ find id_cmp q (listed L)
        only_listed = find-each q (standing cs) (listed L)
            ∙ ap (λ (o : Option Standing). option_or o (find id_cmp q (listed L)))
            (find_no_column q cs (ap (is_member (replicas_of cs)) own ∙ none))

        at_key : (b : Bool) → has_key id_cmp q (keys_of L.entries) ≡ b → q.counter ≤ d.greatest
        at_key true there = seen q own there
        at_key false absent = absurd (true≢false (sym some ∙ ap is_some (only_listed ∙ absent_with q L.entries L.indices absent)))

-- ---- an id above the bound

none_parts : {X : Type 0} (a b : Option X) → option_or a b ≡ None → (a ≡ None) × (b ≡ None)
none_parts None b h = (refl, h)
none_parts (Some x) b h = absurd (cc)

is_there : (ks : List ℕ) (j d : ℕ) → j < length ks → list_any (λ x. x == get_or ks j d) ks ≡ true
is_there [] j d lt = absurd (omega arith)
is_there (x ∷ ks) zero d lt = ap (λ b. b || list_any (λ y. y == x) ks) (same_test x x refl)
is_there (x ∷ ks) (suc j) d lt = later (x == get_or ks j d) (is_there ks j d (omega arith))
  where
    later : (b : Bool) → list_any (λ y. y == get_or ks j d) ks ≡ true → (b || list_any (λ y. y == get_or ks j d) ks) ≡ true
    later true h = refl
    later false h = h

module _ (L : Entries Tag) (cs : List ReplicaColumn) (i : ℕ) (c : ReplicaColumn) (id : OpId) (lt : i < length cs)
    (read : c ≡ get_or cs i c) (n : AreApart L cs) (up : All (IsUpTo (all_standing L cs)) cs)
    (at : slice_get (replicas_of cs) i ≡ Some id.replica) (mine : c.replica ≡ id.replica) (greater : c.greatest < id.counter) where
  bound : IsUpTo (all_standing L cs) c
  bound = subst (IsUpTo (all_standing L cs)) (sym read) (up i c lt)

  nowhere : find id_cmp id (all_standing L cs) ≡ None
  nowhere = at_found (find id_cmp id (all_standing L cs)) refl
    where
      at_found : (o : Option Standing) → find id_cmp id (all_standing L cs) ≡ o → find id_cmp id (all_standing L cs) ≡ None
      at_found None e = e
      at_found (Some x) e = let h = bound id (sym mine) (ap is_some e) in absurd (omega (arith, h, greater))

  parts : (find id_cmp id (standing cs) ≡ None) × (find id_cmp id (listed L) ≡ None)
  parts = none_parts (find id_cmp id (standing cs)) (find id_cmp id (listed L)) (sym (find-each id (standing cs) (listed L)) ∙ nowhere)

  pub in_no_column : find id_cmp id (standing cs) ≡ None
  in_no_column = parts.0

  pub not_listed : find id_cmp id (listed L) ≡ None
  not_listed = parts.1

  stands : (k : ℕ) → list_any (λ x. x == k) c.counters.items ≡ true → IsSome (find id_cmp (id_at k c.replica) (all_standing L cs))
  stands k there =
      let q = id_at k c.replica in
      ap is_some (find-each q (standing cs) (listed L)
      ∙ ap (λ (o : Option Standing). option_or o (find id_cmp q (listed L)))
      (found_before cs i c c id lt read n.distinct at (record { replica = refl; index = refl; tag = refl }) mine q mine
      ∙ find-run q c.replica (c.tag, c.index) c.counters.items
      ∙ (λ t. cond (same_test c.replica c.replica refl t && there t) (Some (c.tag, c.index)) None)))

  pub goes_behind : IsTrue (is_rising (c.counters.items ++ id.counter ∷ []))
  goes_behind = rising_last c.counters.items id.counter
      (ap (λ (x : ReplicaColumn). is_rising x.counters.items) read ∙ n.rising i c lt) smaller
    where
      smaller : All (λ k. k < id.counter) c.counters.items
      smaller j d inside =
          let h = bound (id_at (get_or c.counters.items j d) c.replica) refl
          (stands (get_or c.counters.items j d) (is_there c.counters.items j d inside)) in
          omega (arith, h, greater)
