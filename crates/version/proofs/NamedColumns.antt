-- Columns of the counters that a vector names for the replicas of a table.
use Rattle.std.proofs.Common.{◌≡◌, ℕ, suc, ◌<◌, ◌≤◌, ◌||◌, ◌==◌, Bool, true, false, true≢false, cond, List, [], ◌∷◌, map, length}
use Rattle.std.proofs.Common.{get_or, take}
use Rattle.std.proofs.Common.{max, refl, sym, ap, ◌∙◌, arith}
use Rattle.std.proofs.lemmas.Bool.{and_parts, eqb-true}
use Rattle.std.proofs.lemmas.List.{get_or-take, length-take}
use Rattle.ids.specs.Members.{is_member, AreDistinct}
use Rattle.ids.specs.Vectors.{names_only}
use Rattle.ids.proofs.CanonicalVectors.{same_vectors}
use Rattle.semantics.specs.Ids.{id_at}
use Rattle.semantics.specs.Vectors.{Vector, at, raise, IsCanonical}
use Rattle.semantics.specs.Tables.{by_table, component}
use Rattle.semantics.proofs.TableVectors.{at-by_table, canonical-by_table}

-- a column is what a function gives for each replica of the table
pub by_indices : (f : ℕ → ℕ) (ps cs : List ℕ) → length cs ≡ length ps → ((i : ℕ) → i < length ps → get_or cs i 0 ≡ f (get_or ps i 0))
    → cs ≡ map f ps
by_indices f [] [] long at_index = refl
by_indices f [] (c ∷ cs) long at_index = absurd (omega (arith, long))
by_indices f (p ∷ ps) [] long at_index = absurd (omega (arith, long))
by_indices f (p ∷ ps) (c ∷ cs) long at_index =
    λ t. at_index 0 (omega arith) t ∷ by_indices f ps cs (omega (arith, long)) (λ i lt. at_index (suc i) (omega (arith, lt))) t

-- for a replica of the table a column has what the function gives for it
pub component-map : (f : ℕ → ℕ) (ps : List ℕ) (p : ℕ) → component ps (map f ps) p ≡ cond (is_member ps p) (f p) 0
component-map f [] p = refl
component-map f (q ∷ ps) p = at_test (q == p) refl (component-map f ps p)
  where
    at_test : (b : Bool) → (q == p) ≡ b → component ps (map f ps) p ≡ cond (is_member ps p) (f p) 0
        → cond b (f q) (component ps (map f ps) p) ≡ cond (b || is_member ps p) (f p) 0
    at_test true e rest = ap f (eqb-true q p e)
    at_test false e rest = rest

-- nothing is named for others
pub at-others : (ps : List ℕ) (v : Vector) (p : ℕ) → names_only ps v ≡ true → is_member ps p ≡ false → at v p ≡ 0
at-others ps [] p all none = refl
at-others ps (a ∷ v) p all none =
    at_test (a.replica == p) refl
    (at-others ps v p (and_parts (is_member ps a.replica) (names_only ps v) all).1 none)
  where
    at_test : (b : Bool) → (a.replica == p) ≡ b → at v p ≡ 0 → cond b (max a.counter (at v p)) (at v p) ≡ 0
    at_test true e rest = absurd
        (true≢false
        (sym (and_parts (is_member ps a.replica) (names_only ps v) all).0 ∙ ap (is_member ps) (eqb-true a.replica p e) ∙ none))
    at_test false e rest = rest

-- the column of a vector whose replicas are all in the table names what the vector names
pub named_column : (ps : List ℕ) (v : Vector) → AreDistinct ps → IsCanonical v → names_only ps v ≡ true → by_table ps (map (at v) ps) ≡ v
named_column ps v distinct canonical all =
    same_vectors (by_table ps (map (at v) ps)) v (canonical-by_table ps (map (at v) ps)) canonical
    (λ p. at-by_table ps (map (at v) ps) distinct p ∙ component-map (at v) ps p ∙ at_test p (is_member ps p) refl)
  where
    at_test : (p : ℕ) (b : Bool) → is_member ps p ≡ b → cond b (at v p) 0 ≡ at v p
    at_test p true e = refl
    at_test p false e = sym (at-others ps v p all e)

-- the same for a column that may be wider than the table
pub wide_column : (ps cs : List ℕ) (v : Vector) → AreDistinct ps → IsCanonical v → names_only ps v ≡ true → length ps ≤ length cs
    → ((i : ℕ) → i < length ps → get_or cs i 0 ≡ at v (get_or ps i 0)) → by_table ps cs ≡ v
wide_column ps cs v distinct canonical all wide named =
    within ps cs wide
    ∙ ap (by_table ps) (by_indices (at v) ps (take (length ps) cs) (let l = length-take (length ps) cs in omega (arith, l, wide))
    (λ i lt. get_or-take (length ps) cs i 0 lt ∙ named i lt))
    ∙ named_column ps v distinct canonical all
  where
    within : (qs ds : List ℕ) → length qs ≤ length ds → by_table qs ds ≡ by_table qs (take (length qs) ds)
    within [] ds w = refl
    within (q ∷ qs) [] w = absurd (omega arith)
    within (q ∷ qs) (d ∷ ds) w = ap (λ u. cond (d == 0) u (raise (id_at d q) u)) (within qs ds (omega arith))
