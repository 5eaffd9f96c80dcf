-- An operation without a fault may follow.
use Rattle.std.proofs.Common.{◌≡◌, ◌≢◌, inl, inr, ℕ, suc, ◌<◌, ◌≤◌, Bool, true, false, not, ◌&&◌, ◌==◌, List, [], ◌∷◌, None, refl, sym, ap}
use Rattle.std.proofs.Common.{◌∙◌, subst, arith, le_trans}
use Rattle.std.specs.List.{list_any}
use Rattle.std.proofs.lemmas.Bool.{or_parts, and_parts, and_cases, eqb-true, eqb-false, not-false}
use Rattle.semantics.specs.Ids.{OpId, id_at}
use Rattle.semantics.specs.Operations.{Operation, element_of}
use Rattle.semantics.specs.LegalHistory.{IsAmong, has_id}
use Rattle.semantics.specs.NamedIds.{greatest_counter, names}
use Rattle.semantics.specs.Vectors.{Vector, at, greatest, covers, is_at_most}
use Rattle.semantics.specs.Stamped.{Stamped, operations_of, MayFollow, IsLegalStamped}
use Rattle.semantics.specs.Faults.{StandsAlone, breaks_chain, names_nothing, is_of_nobody, is_open, items_were_inserted, first_fault}
use Rattle.semantics.specs.Faults.{fault_of}
use Rattle.semantics.proofs.AbsentIds.{has_id-among}
use Rattle.semantics.proofs.LegalFacts.{among_from, counter_pos, chain, deps_through}
use Rattle.semantics.proofs.VectorCounters.{at_most-at, at_greatest, none-at, covers-at}
use Rattle.semantics.proofs.NamedOperations.{vector_counts, legal, stamped_for}
use Rattle.semantics.proofs.ItemTests.{items_from}
use Rattle.semantics.proofs.NamedCounters.{greatest_named, named_from}

pub may_follow : (H : List Stamped) (s : Stamped) → IsLegalStamped H → StandsAlone s
    → at s.vector s.id.replica ≡ greatest_counter (operations_of H) s.id.replica
    → ((p : ℕ) → at s.vector p ≢ 0 → has_id (operations_of H) (id_at (at s.vector p) p) ≡ true)
    → ((x : Stamped) → IsAmong x H → x.id.counter ≡ at s.vector x.id.replica → (p : ℕ) → at x.vector p ≤ at s.vector p)
    → items_were_inserted (operations_of H) (element_of s.place) ≡ true
    → MayFollow (operations_of H) s
may_follow H s l alone own reached closed stand = record {
  attained = reached;
  follows = record {
    new_id = λ x m e. not_there x m e;
    deps_before = λ a d. (and_parts (has_id (operations_of H) a) (covers s.vector a) d).0;
    deps_closed = λ x m d a e. through x m
        (covers-at s.vector x.id (and_parts (has_id (operations_of H) x.id) (covers s.vector x.id) d).1) a e;
    own_in_deps = λ x m r. named_from (operations_of H) s.vector x.id (has_id-among (operations_of H) x x.id m refl)
        (subst (λ (q : ℕ). x.id.counter ≤ at s.vector q) (sym r)
        (let k : x.id.counter ≤ greatest_counter (operations_of H) s.id.replica = vector_counts (operations_of H) x m s.id.replica r in
        omega arith));
    counter = alone.counter ∙ ap suc (greatest_named (operations_of H) s.vector reached);
    items = items_from (operations_of H) s.vector (element_of s.place) stand alone.covered;
    form = alone.form;
  };
}
  where
    not_there : (x : Operation) → IsAmong x (operations_of H) → x.id ≡ s.id → ⊥
    not_there x m e =
        let k : x.id.counter ≤ greatest_counter (operations_of H) s.id.replica = vector_counts (operations_of H) x m s.id.replica
        (ap (λ (b : OpId). b.replica) e) in
        let c : x.id.counter ≡ s.id.counter = ap (λ (b : OpId). b.counter) e in
        let f : s.id.counter ≡ suc (greatest s.vector) = alone.counter in
        let g : at s.vector s.id.replica ≤ greatest s.vector = at_greatest s.vector s.id.replica in
        omega arith

    -- y is the operation that the component of x's replica names
    through : (x : Operation) → IsAmong x (operations_of H) → x.id.counter ≤ at s.vector x.id.replica → (a : OpId) → x.deps a ≡ true
        → names (operations_of H) s.vector a ≡ true
    through x m c a d =
        let pos : 0 < x.id.counter = counter_pos (operations_of H) (legal H l) x m in
        let q : ℕ = x.id.replica in
        let y = among_from (operations_of H) (id_at (at s.vector q) q) (reached q (λ z. omega arith)) in
        let ny : y.0.id.counter ≡ at s.vector q = ap (λ (b : OpId). b.counter) y.2 in
        let ry : q ≡ y.0.id.replica = sym (ap (λ (b : OpId). b.replica) y.2) in
        let dy : y.0.deps a ≡ true =
        elim (chain (operations_of H) (legal H l) x y.0 m y.1 ry (omega arith)) [
          | inl e ↦ ap (λ (z : Operation). z.deps a) (sym e) ∙ d
          | inr e ↦ deps_through (operations_of H) (legal H l) y.0 x y.1 m e a d
        ] in
        let ys = stamped_for H l y.0 y.1 in
        let named = and_parts (has_id (operations_of H) a) (covers ys.0.vector a) (sym (ys.2.deps a) ∙ dy) in
        let there : ys.0.id.counter ≡ at s.vector ys.0.id.replica =
        ap (λ (b : OpId). b.counter) (sym ys.2.id) ∙ ny ∙ ap (at s.vector) (ry ∙ ap (λ (b : OpId). b.replica) ys.2.id) in
        named_from (operations_of H) s.vector a named.0 (le_trans (covers-at ys.0.vector a named.1) (closed ys.0 ys.1 there a.replica))

-- ---- the tests

chain_at : (G : List Operation) (s : Stamped) → breaks_chain G s ≡ false → at s.vector s.id.replica ≡ greatest_counter G s.id.replica
chain_at G s h = eqb-true _ _ (not-false (at s.vector s.id.replica == greatest_counter G s.id.replica) h)

reached_at : (G : List Operation) (v : Vector) → list_any (λ a. is_of_nobody G v a.replica) v ≡ false → (p : ℕ) → at v p ≢ 0
    → has_id G (id_at (at v p) p) ≡ true
reached_at G v h p n =
    elim (and_cases (not (at v p == 0)) (not (has_id G (id_at (at v p) p))) (none-at (is_of_nobody G v) v h p n)) [
      | inl e ↦ absurd (n (eqb-true (at v p) 0 (not-false (at v p == 0) e)))
      | inr e ↦ not-false (has_id G (id_at (at v p) p)) e
    ]

closed_at : (H : List Stamped) (v : Vector) → is_open H v ≡ false → (x : Stamped) → IsAmong x H → x.id.counter ≡ at v x.id.replica → (p : ℕ)
    → at x.vector p ≤ at v p
closed_at [] v h x m e p = absurd m
closed_at (s ∷ H) v h x (inl i) e p =
    let here = (or_parts ((s.id.counter == at v s.id.replica) && not (is_at_most s.vector v)) (is_open H v) h).0 in
    elim (and_cases (s.id.counter == at v s.id.replica) (not (is_at_most s.vector v)) here) [
      | inl f ↦ absurd (eqb-false s.id.counter (at v s.id.replica) f (subst (λ (y : Stamped). y.id.counter ≡ at v y.id.replica) i e))
      | inr f ↦ subst (λ (y : Stamped). at y.vector p ≤ at v p) (sym i) (at_most-at s.vector v (not-false (is_at_most s.vector v) f) p)
    ]
closed_at (s ∷ H) v h x (inr m) e p = closed_at H v
    (or_parts ((s.id.counter == at v s.id.replica) && not (is_at_most s.vector v)) (is_open H v) h).1 x m e p

no_fault : (a b c d : Bool) → first_fault a b c d ≡ None → (a ≡ false) × (b ≡ false) × (c ≡ false) × (d ≡ false)
no_fault true b c d h = cc
no_fault false true c d h = cc
no_fault false false true d h = cc
no_fault false false false true h = cc
no_fault false false false false h = (refl, refl, refl, refl)

pub follows_without_fault : (H : List Stamped) (s : Stamped) → IsLegalStamped H → StandsAlone s → fault_of H s ≡ None
    → MayFollow (operations_of H) s
follows_without_fault H s l alone h =
    let tests = no_fault (breaks_chain (operations_of H) s) (names_nothing (operations_of H) s) (is_open H s.vector)
    (not (items_were_inserted (operations_of H) (element_of s.place))) h in
    may_follow H s l alone (chain_at (operations_of H) s tests.0) (reached_at (operations_of H) s.vector tests.1)
    (closed_at H s.vector tests.2) (not-false (items_were_inserted (operations_of H) (element_of s.place)) tests.3)
