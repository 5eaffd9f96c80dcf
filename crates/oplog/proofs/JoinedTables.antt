-- A replica joins the table of a log: an empty column becomes its own.
use Rattle.std.proofs.Common.{◌≡◌, ◌≢◌, refl, sym, ap, ◌∙◌, ℕ, suc, ◌+◌, ◌-◌, ◌<◌, ◌≤◌, Bool, true, false, true≢false, cond, List, [], ◌∷◌}
use Rattle.std.proofs.Common.{◌++◌}
use Rattle.std.proofs.Common.{map, length, get_or, set, take, replicate, Some, slice_get, arith, append_assoc}
use Rattle.std.specs.FinMap.{put}
use Rattle.std.proofs.Math.Seq.{take-append_seam}
use Rattle.std.proofs.lemmas.List.{append-nil, get_or_append_left, length-append, length-map, map-append, replicate-append-replicate}
use Rattle.std.proofs.lemmas.List.{set-append_left}
use Rattle.std.proofs.lemmas.Option.{slice_get_within}
use Rattle.ids.specs.declared.id.OpId.{OpId}
use Rattle.ids.specs.Members.{AreDistinct, is_member}
use Rattle.ids.specs.Tables.{joined}
use Rattle.ids.proofs.Tables.{member_joined}
use Rattle.semantics.specs.Ids.{id_cmp}
use Rattle.semantics.specs.Entries.{Entry as TheEntry, stamped_in}
use Rattle.oplog.specs.Logs.{AreOfMembers, columns_for, positions_by}
use Rattle.oplog.proofs.Positions.{all_more, all_none, positions_by-other}

-- nothing is of a replica that isn't in the table
nothing_by : (p : ℕ) (ps : List ℕ) (G : List TheEntry) → is_member ps p ≡ false → AreOfMembers ps G → positions_by p G ≡ []
nothing_by p ps [] none all = refl
nothing_by p ps (x ∷ G) none all =
    positions_by-other p G x (λ same. true≢false (sym all.1 ∙ ap (is_member ps) same ∙ none)) ∙ nothing_by p ps G none all.0

one_more : (n m : ℕ) → m < n → ◌≡◌ {A = List (List (OpId × ℕ))} (replicate (n - m) []) ([] ∷ replicate (n - (m + 1)) [])
one_more n m lt = ap (λ k. replicate k []) (let k : n - m ≡ suc (n - (m + 1)) = omega (arith, lt) in k)

-- the columns are those of the table with p
pub columns_joined : (p : ℕ) (ps : List ℕ) (n : ℕ) (G : List TheEntry) → AreOfMembers ps G → length ps < n
    → columns_for n ps G ≡ columns_for n (joined p ps) G
columns_joined p ps n G all room = by (is_member ps p) refl
  where
    by : (b : Bool) → is_member ps p ≡ b → columns_for n ps G ≡ columns_for n (cond b ps (ps ++ p ∷ [])) G
    by true e = refl
    by false e =
        let f : ℕ → List (OpId × ℕ) = λ q. positions_by q G in
        ap (λ r. map f ps ++ r) (one_more n (length ps) room)
        ∙ sym (append_assoc (map f ps) ([] ∷ []) (replicate (n - (length ps + 1)) []))
        ∙ (λ t. (map f ps ++ (sym (nothing_by p ps G e all) t) ∷ []) ++ replicate (n - (length ps + 1)) [])
        ∙ (λ t. sym (map-append f ps (p ∷ [])) t ++ replicate (n - sym (length-append ps (p ∷ [])) t) [])

-- one more entry of a replica of the table
pub columns_more : (G : List TheEntry) (x : TheEntry) (ps : List ℕ) (i n : ℕ) → AreDistinct ps
    → slice_get ps i ≡ Some (stamped_in x).id.replica
    → set (columns_for n ps G) i (put id_cmp (stamped_in x).id (length G) (get_or (columns_for n ps G) i [])) ≡ columns_for n ps (x ∷ G)
columns_more G x ps i n distinct at =
    let f : ℕ → List (OpId × ℕ) = λ q. positions_by q G in
    let rest : List (List (OpId × ℕ)) = replicate (n - length ps) [] in
    let inside : i < length
    (map f ps) = (let l = length-map ps f in let h = slice_get_within ps i (stamped_in x).id.replica at in omega arith) in
    set-append_left (map f ps) rest i _ inside
    ∙ (λ t. set (map f ps) i (put id_cmp (stamped_in x).id (length G) (get_or_append_left (map f ps) rest [] i inside t)) ++ rest)
    ∙ ap (λ l. l ++ rest) (all_more G x ps i distinct at)

-- the operations are of replicas of the table with p
pub members_joined : (p : ℕ) (ps : List ℕ) (G : List TheEntry) → AreOfMembers ps G → AreOfMembers (joined p ps) G
members_joined p ps [] all = tt
members_joined p ps (x ∷ G) all = (members_joined p ps G all.0, member_joined p ps (stamped_in x).id.replica all.1)

-- without entries all columns are empty
pub columns_none : (ps : List ℕ) → columns_for (length ps) ps [] ≡ replicate (length ps) []
columns_none ps =
    (λ t. all_none ps t ++ replicate (none t) []) ∙ append-nil (replicate (length ps) [])
  where
    none : length ps - length ps ≡ 0
    none = omega arith

-- as many columns as there are replicas
pub own_columns : (G : List TheEntry) (ps : List ℕ) (n : ℕ) → take (length ps) (columns_for n ps G) ≡ map (λ p. positions_by p G) ps
own_columns G ps n =
    let f : ℕ → List (OpId × ℕ) = λ q. positions_by q G in
    ap (λ k. take k (map f ps ++ replicate (n - length ps) [])) (sym (length-map ps f))
    ∙ take-append_seam (map f ps) (replicate (n - length ps) [])

-- more columns that are empty
pub columns_longer : (G : List TheEntry) (ps : List ℕ) (n m : ℕ) → length ps ≤ n → n ≤ m
    → columns_for n ps G ++ replicate (m - n) [] ≡ columns_for m ps G
columns_longer G ps n m enough more =
    let f : ℕ → List (OpId × ℕ) = λ q. positions_by q G in
    append_assoc (map f ps) (replicate (n - length ps) []) (replicate (m - n) [])
    ∙ ap (λ r. map f ps ++ r) (replicate-append-replicate (n - length ps) (m - n) []
    ∙ ap (λ k. replicate k []) (let k : (n - length ps) + (m - n) ≡ m - length ps = omega (arith, enough, more) in k))
