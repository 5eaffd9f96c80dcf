-- As what something stands at the ids of columns.
use Rattle.std.proofs.Common.{◌≡◌, ◌≢◌, refl, sym, ap, ◌∙◌, ℕ, zero, suc, ◌<◌, Bool, true, false, cond, ◌||◌, List, [], ◌∷◌}
use Rattle.std.proofs.Common.{length, get_or}
use Rattle.std.proofs.Common.{drop, arith, Less, Equal, Greater}
use Rattle.std.specs.Prelude.{Some, None}
use Rattle.std.specs.Ordering.{is_eq}
use Rattle.std.specs.FinMap.{find, put}
use Rattle.std.specs.FinMap.Entries.{by_order}
use Rattle.std.proofs.Math.Bool.{or_comm}
use Rattle.std.proofs.lemmas.List.Folds.{list_any-append}
use Rattle.semantics.specs.Ids.{OpId, id_cmp}
use Rattle.semantics.specs.Elements.{Tag as TheTag}
use Rattle.semantics.specs.Glances.{is_same_tag}
use Rattle.cursor.specs.Steps.{tag_of}
use Rattle.columns.specs.Kinds.{stands_as}
use Rattle.columns.specs.ReplicaColumns.{Standing, put_each, standing, standing_in, stands_in, tags_of}
use Rattle.columns.specs.declared.replica_column.ReplicaColumn.{ReplicaColumn}
use Rattle.columns.proofs.ByReplica.{run}
use Rattle.columns.proofs.PutEach.{AreNew}

-- each id of a column stands with its tag
stands-run : (t : TheTag) (p : ℕ) (s : Standing) (k : ℕ) (ks : List ℕ) → stands_in t (run p s (k ∷ ks)) ≡ is_same_tag t (tag_of s.0)
stands-run t p s k [] = or_comm (is_same_tag t (tag_of s.0)) false
stands-run t p s k (j ∷ ks) = ap (λ b. is_same_tag t (tag_of s.0) || b) (stands-run t p s j ks) ∙ twice (is_same_tag t (tag_of s.0))
  where
    twice : (b : Bool) → (b || b) ≡ b
    twice true = refl
    twice false = refl

pub stands-column : (t : TheTag) (c : ReplicaColumn) → 0 < length c.counters.items
    → stands_in t (standing_in c) ≡ is_same_tag t (tag_of c.tag)
stands-column t c some = at_counters c.counters.items some
  where
    at_counters : (ks : List ℕ) → 0 < length ks → stands_in t (run c.replica (c.tag, c.index) ks) ≡ is_same_tag t (tag_of c.tag)
    at_counters [] some = absurd (omega arith)
    at_counters (k ∷ ks) some = stands-run t c.replica (c.tag, c.index) k ks

pub stands-none : (t : TheTag) (c : ReplicaColumn) → length c.counters.items ≡ 0 → stands_in t (standing_in c) ≡ false
stands-none t c none = at_counters c.counters.items none
  where
    at_counters : (ks : List ℕ) → length ks ≡ 0 → stands_in t (run c.replica (c.tag, c.index) ks) ≡ false
    at_counters [] none = refl
    at_counters (k ∷ ks) none = absurd (omega (arith, none))

-- a column and those behind it
pub stands-behind : (t : TheTag) (cs : List ReplicaColumn) (i : ℕ) (c : ReplicaColumn) → i < length cs → c ≡ get_or cs i c
    → stands_in t (standing (drop i cs)) ≡ (stands_in t (standing_in c) || stands_in t (standing (drop (suc i) cs)))
stands-behind t [] i c lt read = absurd (omega arith)
stands-behind t (x ∷ cs) zero c lt read =
    list_any-append (λ (e : OpId × Standing). is_same_tag t (tag_of e.1.0)) (standing_in x) (standing cs)
    ∙ ap (λ (y : ReplicaColumn). stands_in t (standing_in y) || stands_in t (standing cs)) (sym read)
stands-behind t (x ∷ cs) (suc i) c lt read = stands-behind t cs i c (omega arith) read

-- a new id stands with its tag
stands-new : (t : TheTag) (id : OpId) (v : Standing) (m : List (OpId × Standing)) → find id_cmp id m ≡ None
    → stands_in t (put id_cmp id v m) ≡ (is_same_tag t (tag_of v.0) || stands_in t m)
stands-new t id v [] none = refl
stands-new t id v (e ∷ es) none =
    elim (id_cmp id e.0) as
    (λ o. cond (is_eq o) (Some e.1) (find id_cmp id es) ≡ None
    → stands_in t (by_order o ((id, v) ∷ e ∷ es) ((e.0, v) ∷ es) (e ∷ put id_cmp id v es))
    ≡ (is_same_tag t (tag_of v.0) || stands_in t (e ∷ es))) [
      | Less ↦ λ h. refl
      | Equal ↦ λ h. absurd (not_none e.1 h)
      | Greater ↦ λ h. ap (λ b. is_same_tag t (tag_of e.1.0) || b) (stands-new t id v es h)
          ∙ swapped (is_same_tag t (tag_of e.1.0)) (is_same_tag t (tag_of v.0)) (stands_in t es)
    ] none
  where
    not_none : (x : Standing) → Some x ≢ None
    not_none x h = cc

    swapped : (a b c : Bool) → (a || (b || c)) ≡ (b || (a || c))
    swapped true true c = refl
    swapped true false c = refl
    swapped false b c = refl

pub stands-each : (t : TheTag) (es m : List (OpId × Standing)) → AreNew es m
    → stands_in t (put_each es m) ≡ (stands_in t m || stands_in t es)
stands-each t [] m new = or_comm false (stands_in t m)
stands-each t (e ∷ es) m new = stands-new t e.0 e.1 (put_each es m) new.0
    ∙ ap (λ b. is_same_tag t (tag_of e.1.0) || b) (stands-each t es m new.1)
    ∙ swapped (is_same_tag t (tag_of e.1.0)) (stands_in t m) (stands_in t es)
  where
    swapped : (a b c : Bool) → (a || (b || c)) ≡ (b || (a || c))
    swapped true true c = refl
    swapped true false c = refl
    swapped false b c = refl

pub stands-tags : (t : TheTag) (m : List (OpId × Standing)) → stands_as t (tags_of m) ≡ stands_in t m
stands-tags t [] = refl
stands-tags t (e ∷ es) = ap (λ b. is_same_tag t (tag_of e.1.0) || b) (stands-tags t es)
