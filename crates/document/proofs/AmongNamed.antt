-- The ids that a canonical vector names, one by one.
use Rattle.std.proofs.Common.{◌≡◌, ◌≢◌, inl, inr, ℕ, max, Bool, true, false, true≢false, not, ◌&&◌, ◌||◌, ◌==◌, cond, List, [], ◌∷◌, refl}
use Rattle.std.proofs.Common.{sym}
use Rattle.std.proofs.Common.{ap, subst, ◌∙◌}
use Rattle.std.specs.List.{list_any}
use Rattle.std.proofs.lemmas.Bool.{eqb-true, ne_eqb}
use Rattle.ids.proofs.CanonicalVectors.{at_first}
use Rattle.semantics.specs.Ids.{OpId, id_at}
use Rattle.semantics.specs.Operations.{Operation}
use Rattle.semantics.specs.LegalHistory.{IsAmong, has_id}
use Rattle.semantics.specs.Vectors.{Vector, IsCanonical, at}
use Rattle.semantics.specs.Faults.{is_of_nobody}
use Rattle.oplog.proofs.KnownMembers.{at_among}

-- what is named of a replica is in the vector
pub among_at : (v : Vector) (p : ℕ) → IsCanonical v → at v p ≢ 0 → IsAmong (id_at (at v p) p) v
among_at [] p c n = absurd (n refl)
among_at (b ∷ v) p c n = at_test (among_at v p c.2) (b.replica == p) refl
  where
    at_test : (at v p ≢ 0 → IsAmong (id_at (at v p) p) v) → (t : Bool) → (b.replica == p) ≡ t → IsAmong (id_at (at (b ∷ v) p) p) (b ∷ v)
    at_test rest true e =
        let is : p ≡ b.replica = sym (eqb-true b.replica p e) in
        let here : at (b ∷ v) p ≡ b.counter = ap (at (b ∷ v)) is ∙ at_first b v c.1 in
        inl (λ i. id_at (here i) (is i))
    at_test rest false e =
        let later : at (b ∷ v) p ≡ at v p = ap (λ t. cond t (max b.counter (at v p)) (at v p)) e in
        inr (subst (λ k. IsAmong (id_at k p) v) (sym later) (rest (λ z. n (later ∙ z))))

-- ---- tests of each

pub any_there : (f : OpId → Bool) (v : Vector) → list_any f v ≡ true → (a : OpId) × IsAmong a v × (f a ≡ true)
any_there f [] h = absurd (true≢false (sym h))
any_there f (a ∷ v) h = at_test (any_there f v) (f a) refl h
  where
    at_test : (list_any f v ≡ true → (b : OpId) × IsAmong b v × (f b ≡ true)) → (t : Bool) → f a ≡ t → (t || list_any f v) ≡ true
        → (b : OpId) × IsAmong b (a ∷ v) × (f b ≡ true)
    at_test rest true e m = (a, inl refl, e)
    at_test rest false e m = (let it = rest m in (it.0, inr it.1, it.2))

pub none_there : (f : OpId → Bool) (v : Vector) → list_any f v ≡ false → (a : OpId) → IsAmong a v → f a ≡ false
none_there f [] h a m = absurd m
none_there f (b ∷ v) h a m = at_test (none_there f v) (f b) refl h m
  where
    at_test : (list_any f v ≡ false → (x : OpId) → IsAmong x v → f x ≡ false) → (t : Bool) → f b ≡ t → (t || list_any f v) ≡ false
        → IsAmong a (b ∷ v) → f a ≡ false
    at_test rest true e none there = absurd (true≢false none)
    at_test rest false e none there = elim there [
      | inl is ↦ ap f is ∙ e
      | inr later ↦ rest none a later
    ]

any_same : (f g : OpId → Bool) (v : Vector) → ((a : OpId) → IsAmong a v → f a ≡ g a) → list_any f v ≡ list_any g v
any_same f g [] each = refl
any_same f g (a ∷ v) each = λ i. each a (inl refl) i || any_same f g v (λ b m. each b (inr m)) i

-- whether some id of the vector belongs to no operation, tested by its replica's counter
pub any_of_nobody : (H : List Operation) (v : Vector) → IsCanonical v
    → list_any (λ a. not (has_id H a)) v ≡ list_any (λ a. is_of_nobody H v a.replica) v
any_of_nobody H v c = any_same (λ a. not (has_id H a)) (λ a. is_of_nobody H v a.replica) v
    (λ a m. let named = at_among v c a m in
    ap (λ b. not b && not (has_id H a)) (sym (ne_eqb a.counter 0 named.1))
    ∙ ap (λ n. not (n == 0) && not (has_id H (id_at n a.replica))) (sym named.0))
