-- Where the operations of each replica of a table stand.
use Rattle.std.proofs.Common.{◌≡◌, refl, sym, ap, ◌∙◌, ℕ, zero, suc, ◌-◌, ◌<◌, ◌≤◌, Bool, true, false, true≢false, cond, ◌==◌, List, []}
use Rattle.std.proofs.Common.{◌∷◌, map}
use Rattle.std.proofs.Common.{length, get_or, set, replicate, IsTrue, IsFalse, arith, Some, None, slice_get}
use Rattle.std.specs.FinMap.{find, put}
use Rattle.std.specs.FinMap.Entries.{find-put}
use Rattle.std.proofs.lemmas.Bool.{or_left, or_right, eq-eqb, eqb-false, ne_eqb}
use Rattle.std.proofs.lemmas.Cmp.{eq_by_cmp_equiv}
use Rattle.std.proofs.lemmas.List.{get_or_append_left, length-append, length-map, length-replicate, length-set}
use Rattle.std.proofs.lemmas.Option.{slice_get_within}
use Rattle.ids.specs.declared.id.OpId.{OpId}
use Rattle.ids.specs.Members.{AreDistinct, is_member}
use Rattle.semantics.specs.Ids.{id_cmp, is_same_id}
use Rattle.semantics.specs.Entries.{Entry as TheEntry, stamped_in}
use Rattle.semantics.proofs.Orders.{id_total, ids_from_test}
use Rattle.columns.specs.Numbered.{Numbered}
use Rattle.oplog.specs.Logs.{AreOfMembers, columns_for, numbers_of, position_of, positions_by}

-- a replica that stands at an index is a member
pub member_at : (ps : List ℕ) (i p : ℕ) → slice_get ps i ≡ Some p → is_member ps p ≡ true
member_at [] i p e = cc
member_at (q ∷ ps) zero p e = or_left (q == p) (is_member ps p) (eq-eqb q p (cc))
member_at (q ∷ ps) (suc i) p e = or_right (q == p) (is_member ps p) (member_at ps i p e)

-- an id is another where its replica is
other_replica : (a b : OpId) → (a.replica ≡ b.replica → ⊥) → is_same_id a b ≡ false
other_replica a b other = at_test (is_same_id a b) refl
  where
    at_test : (t : Bool) → is_same_id a b ≡ t → is_same_id a b ≡ false
    at_test true e = absurd (other (ap (λ (x : OpId). x.replica) (ids_from_test a b e)))
    at_test false e = e

-- an id of a replica is found where it stands
pub positions_by-find : (p : ℕ) (G : List TheEntry) (a : OpId) → a.replica ≡ p → find id_cmp a (positions_by p G) ≡ position_of a G
positions_by-find p [] a own = refl
positions_by-find p (x ∷ G) a own = at_test (positions_by-find p G a own) ((stamped_in x).id.replica == p) refl
  where
    at_test : find id_cmp a (positions_by p G) ≡ position_of a G → (b : Bool) → ((stamped_in x).id.replica == p) ≡ b
        → find id_cmp a (cond b (put id_cmp (stamped_in x).id (length G) (positions_by p G)) (positions_by p G)) ≡ position_of a (x ∷ G)
    at_test rest true e =
        find-put id_cmp id_total a (stamped_in x).id (length G) (positions_by p G)
        ∙ (λ t. cond ((eq_by_cmp_equiv id_total).symm a (stamped_in x).id t) (Some (length G)) (rest t))
    at_test rest false e =
        rest ∙ ap (λ b. cond b (Some (length G)) (position_of a G))
        (sym (other_replica (stamped_in x).id a (λ same. eqb-false (stamped_in x).id.replica p e (same ∙ own))))

-- one more entry of another replica
pub positions_by-other : (p : ℕ) (G : List TheEntry) (x : TheEntry) → ((stamped_in x).id.replica ≡ p → ⊥)
    → positions_by p (x ∷ G) ≡ positions_by p G
positions_by-other p G x other = ap (λ b. cond b (put id_cmp (stamped_in x).id (length G) (positions_by p G)) (positions_by p G))
    (ne_eqb (stamped_in x).id.replica p other)

-- one more entry of the replica
pub positions_by-own : (p : ℕ) (G : List TheEntry) (x : TheEntry) → (stamped_in x).id.replica ≡ p
    → positions_by p (x ∷ G) ≡ put id_cmp (stamped_in x).id (length G) (positions_by p G)
positions_by-own p G x own = ap (λ b. cond b (put id_cmp (stamped_in x).id (length G) (positions_by p G)) (positions_by p G))
    (eq-eqb (stamped_in x).id.replica p own)

-- an entry of none of these replicas
pub all_others : (G : List TheEntry) (x : TheEntry) (ps : List ℕ) → (IsTrue (is_member ps (stamped_in x).id.replica) → ⊥)
    → map (λ p. positions_by p (x ∷ G)) ps ≡ map (λ p. positions_by p G) ps
all_others G x [] absent = refl
all_others G x (p ∷ ps) absent =
    let r = (stamped_in x).id.replica in
    (λ t. positions_by-other p G x (λ own. absent (or_left (p == r) (is_member ps r) (eq-eqb p r (sym own)))) t ∷ all_others G x ps
    (λ m. absent (or_right (p == r) (is_member ps r) m)) t)

-- one more entry, whose position is put among those of its replica
pub all_more : (G : List TheEntry) (x : TheEntry) (ps : List ℕ) (i : ℕ) → AreDistinct ps → slice_get ps i ≡ Some (stamped_in x).id.replica
    → set (map (λ p. positions_by p G) ps) i (put id_cmp (stamped_in x).id (length G) (get_or (map (λ p. positions_by p G) ps) i []))
    ≡ map (λ p. positions_by p (x ∷ G)) ps
all_more G x [] i distinct at = cc
all_more G x (p ∷ ps) zero distinct at =
    let own : p ≡ (stamped_in x).id.replica = cc in
    (λ t. sym (positions_by-own p G x (sym own)) t ∷ sym (all_others G x ps (λ m. distinct.0 (ap (is_member ps) own ∙ m))) t)
all_more G x (p ∷ ps) (suc i) distinct at =
    (λ t. sym
    (positions_by-other p G x
    (λ same. distinct.0
    (ap (is_member ps) (sym same) ∙ member_at ps i (stamped_in x).id.replica at))) t ∷ all_more G x ps i distinct.1 at t)

-- without entries there is no position
pub all_none : (ps : List ℕ) → map (λ p. positions_by p []) ps ≡ replicate (length ps) []
all_none [] = refl
all_none (p ∷ ps) = ap (λ l. [] ∷ l) (all_none ps)

-- the same numbers are in as many columns
pub as_many : (ns ms : List (Numbered OpId)) → numbers_of ms ≡ numbers_of ns → length ms ≡ length ns
as_many ns ms same = sym (length-map ms (λ (n : Numbered OpId). n.entries)) ∙ ap length same
    ∙ length-map ns (λ (n : Numbered OpId). n.entries)

pub as_many_set : (ns ms : List (Numbered OpId)) (i : ℕ) (m : List (OpId × ℕ)) → numbers_of ms ≡ set (numbers_of ns) i m
    → length ms ≡ length ns
as_many_set ns ms i m same = sym (length-map ms (λ (n : Numbered OpId). n.entries)) ∙ ap length same ∙ length-set (numbers_of ns) i m
    ∙ length-map ns (λ (n : Numbered OpId). n.entries)

-- there is a column for each replica
pub enough_columns : (G : List TheEntry) (ps : List ℕ) (ns : List (Numbered OpId)) → numbers_of ns ≡ columns_for (length ns) ps G
    → length ps ≤ length ns
enough_columns G ps ns are =
    let width = ap length are in
    let same = length-map ns (λ (n : Numbered OpId). n.entries) in
    let long = length-map ps (λ q. positions_by q G) in
    let both = length-append (map (λ q. positions_by q G) ps) (replicate (length ns - length ps) []) in
    let rest = length-replicate {A = List (OpId × ℕ)} (length ns - length ps) [] in
    omega arith

-- a replica's positions stand among the columns
pub positions_inside : (G : List TheEntry) (ps : List ℕ) (ns : List (Numbered OpId)) (i p : ℕ) → slice_get ps i ≡ Some p
    → numbers_of ns ≡ columns_for (length ns) ps G → i < length ns
positions_inside G ps ns i p at are =
    let here = slice_get_within ps i p at in
    let enough = enough_columns G ps ns are in
    omega arith

-- the positions at a replica's index in the table are its own
pub all_at : (G : List TheEntry) (ps : List ℕ) (i p : ℕ) → slice_get ps i ≡ Some p
    → get_or (map (λ q. positions_by q G) ps) i [] ≡ positions_by p G
all_at G [] i p at = cc
all_at G (q ∷ ps) zero p at = ap (λ r. positions_by r G) (cc)
all_at G (q ∷ ps) (suc i) p at = all_at G ps i p at

pub own_column : (G : List TheEntry) (ps : List ℕ) (n i p : ℕ) → slice_get ps i ≡ Some p
    → get_or (columns_for n ps G) i [] ≡ positions_by p G
own_column G ps n i p at =
    let f : ℕ → List (OpId × ℕ) = λ q. positions_by q G in
    let inside : i < length (map f ps) = (let l = length-map ps f in let h = slice_get_within ps i p at in omega arith) in
    get_or_append_left (map f ps) (replicate (n - length ps) []) [] i inside ∙ all_at G ps i p at

-- an id of a replica that isn't in the table is nowhere
pub absent_elsewhere : (table : List ℕ) (G : List TheEntry) (a : OpId) → IsFalse (is_member table a.replica) → AreOfMembers table G
    → position_of a G ≡ None
absent_elsewhere table [] a elsewhere members = refl
absent_elsewhere table (e ∷ G) a elsewhere members =
    ap (λ b. cond b (Some (length G)) (position_of a G))
    (other_replica (stamped_in e).id a (λ same. true≢false (sym members.1 ∙ ap (is_member table) same ∙ elsewhere)))
    ∙ absent_elsewhere table G a elsewhere members.0
