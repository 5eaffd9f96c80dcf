-- The greatest counter of a vector is that of what it names.
use Rattle.std.proofs.Common.{◌≡◌, ◌≢◌, inl, inr, ℕ, ◌≤◌, true, List, ap, ◌∙◌, arith, le_antisymm}
use Rattle.std.proofs.lemmas.Bool.{and_parts, and_from, cases_eq}
use Rattle.semantics.specs.Ids.{OpId, id_at}
use Rattle.semantics.specs.Operations.{Operation}
use Rattle.semantics.specs.LegalHistory.{has_id, greatest_of}
use Rattle.semantics.specs.Vectors.{Vector, at, greatest, covers}
use Rattle.semantics.specs.NamedIds.{names}
use Rattle.semantics.proofs.LegalFacts.{among_from, counted, greatest_cases}
use Rattle.semantics.proofs.VectorCounters.{at_greatest, greatest_at, covers-at, covers-from}

pub named_from : (G : List Operation) (v : Vector) (a : OpId) → has_id G a ≡ true → a.counter ≤ at v a.replica → names G v a ≡ true
named_from G v a h c = and_from (has_id G a) (covers v a) h (covers-from v a c)

-- the greatest counter of a vector that stands for what it names
pub greatest_named : (G : List Operation) (v : Vector) → ((p : ℕ) → at v p ≢ 0 → has_id G (id_at (at v p) p) ≡ true)
    → greatest v ≡ greatest_of (names G v) G
greatest_named G v reached = le_antisymm below above
  where
    below : greatest v ≤ greatest_of (names G v) G
    below = elim (greatest_at v) [
      | inl z ↦ omega arith
      | inr r ↦ elim (cases_eq (at v r.0) 0) [
        | inl z ↦ (let e : at v r.0 ≡ greatest v = r.1 in omega arith)
        | inr n ↦ (let e : at v r.0 ≡ greatest v = r.1 in
            let a : OpId = id_at (at v r.0) r.0 in
            let x = among_from G a (reached r.0 n) in
            let k : x.0.id.counter ≤ greatest_of (names G v) G = counted (names G v) G x.0 x.1
            (ap (names G v) x.2 ∙ named_from G v a (reached r.0 n) (omega arith)) in
            let c : x.0.id.counter ≡ at v r.0 = ap (λ (b : OpId). b.counter) x.2 in
            omega arith)
      ]
    ]

    above : greatest_of (names G v) G ≤ greatest v
    above = elim (greatest_cases (names G v) G) [
      | inl z ↦ omega arith
      | inr r ↦ (let c : r.0.id.counter ≤ at v r.0.id.replica = covers-at v r.0.id (and_parts (has_id G r.0.id) (covers v r.0.id) r.2).1 in
          let g : at v r.0.id.replica ≤ greatest v = at_greatest v r.0.id.replica in
          let e : r.0.id.counter ≡ greatest_of (names G v) G = r.3 in
          omega arith)
    ]
