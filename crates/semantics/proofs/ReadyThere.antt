-- In one world an operation is ready exactly if all that it depends on is there.
use Rattle.std.proofs.Common.{◌≡◌, ◌≢◌, inl, inr, ℕ, ◌<◌, ◌≤◌, Bool, true, false, List, refl, sym, ap, ◌∙◌, subst, arith}
use Rattle.std.proofs.lemmas.Bool.{and_parts, and_from, cases_eq}
use Rattle.semantics.specs.Ids.{OpId, id_at}
use Rattle.semantics.specs.Operations.{Operation}
use Rattle.semantics.specs.LegalHistory.{IsLegal, Follows, IsAmong, has_id}
use Rattle.semantics.specs.NamedIds.{greatest_counter, names}
use Rattle.semantics.specs.Vectors.{at, covers}
use Rattle.semantics.specs.Stamped.{Stamped, operation_after, MayFollow, Means}
use Rattle.semantics.specs.Faults.{is_ready}
use Rattle.semantics.specs.OneWorld.{AreWithin}
use Rattle.semantics.proofs.AbsentIds.{has_id-among}
use Rattle.semantics.proofs.LegalFacts.{among_from, counter_pos, chain, deps_through, deps_there}
use Rattle.semantics.proofs.VectorCounters.{ready-at, ready-from, covers-at}
use Rattle.semantics.proofs.NamedOperations.{vector_counts, vector_cases}
use Rattle.semantics.proofs.NamedCounters.{named_from}
use Rattle.semantics.proofs.SameWorld.{follows_in}

-- s is of a history of the world, and means o there
module _ (K : List Operation) (lk : IsLegal K) (G F : List Operation) (lg : IsLegal G) (wg : AreWithin G K) (wf : AreWithin F K)
    (s : Stamped) (o : Operation) (m : Means F s o) where
  -- the vector's ids are what the operation depends on
  depended : (p : ℕ) → at s.vector p ≢ 0 → o.deps (id_at (at s.vector p) p) ≡ true
  depended p n = m.deps (id_at (at s.vector p) p) ∙ named_from F s.vector (id_at (at s.vector p) p) (m.attained p n) (omega arith)

  -- what is covered here is depended on there
  covered_is_dep : (x : Operation) → IsAmong x G → covers s.vector x.id ≡ true → o.deps x.id ≡ true
  covered_is_dep x n c =
      let q : ℕ = x.id.replica in
      let pos : 0 < x.id.counter = counter_pos G lg x n in
      let le : x.id.counter ≤ at s.vector q = covers-at s.vector x.id c in
      let nz : at s.vector q ≢ 0 = omega arith in
      let d : o.deps (id_at (at s.vector q) q) ≡ true = depended q nz in
      let y = among_from F (id_at (at s.vector q) q) (m.attained q nz) in
      let yc : y.0.id.counter ≡ at s.vector q = ap (λ (b : OpId). b.counter) y.2 in
      let yr : q ≡ y.0.id.replica = sym (ap (λ (b : OpId). b.replica) y.2) in
      let dy : o.deps y.0.id ≡ true = ap o.deps y.2 ∙ d in
      elim (chain K lk x y.0 (wg x n) (wf y.0 y.1) yr (omega arith)) [
        | inl e ↦ ap (λ (z : Operation). o.deps z.id) e ∙ dy
        | inr e ↦ deps_through K lk o y.0 (wf o m.among) (wf y.0 y.1) dy x.id e
      ]

  pub deps_are_named : ((a : OpId) → o.deps a ≡ true → has_id G a ≡ true) → (a : OpId) → o.deps a ≡ names G s.vector a
  deps_are_named before a = same_bool (o.deps a) (names G s.vector a) forth back
    where
      same_bool : (b c : Bool) → (b ≡ true → c ≡ true) → (c ≡ true → b ≡ true) → b ≡ c
      same_bool true c f g = sym (f refl)
      same_bool false true f g = g refl
      same_bool false false f g = refl

      forth : o.deps a ≡ true → names G s.vector a ≡ true
      forth d = and_from (has_id G a) (covers s.vector a) (before a d) (and_parts (has_id F a) (covers s.vector a) (sym (m.deps a) ∙ d)).1

      back : names G s.vector a ≡ true → o.deps a ≡ true
      back h =
          let both = and_parts (has_id G a) (covers s.vector a) h in
          let x = among_from G a both.0 in
          ap o.deps (sym x.2) ∙ covered_is_dep x.0 x.1 (ap (covers s.vector) x.2 ∙ both.1)

  -- it may follow here, and means the same
  pub may_follow_in : has_id G s.id ≡ false → ((a : OpId) → o.deps a ≡ true → has_id G a ≡ true) → MayFollow G s
  may_follow_in new before =
      let seen : o
      ≡ operation_after G s = λ i. record {
        id = m.id i;
        deps = λ a. deps_are_named before a i;
        place = m.place i;
        mutation = m.mutation i;
      } in record {
        attained = λ p n. before (id_at (at s.vector p) p) (depended p n);
        follows = subst (Follows G) seen (follows_in K G lk lg wg o (wf o m.among) (ap (has_id G) m.id ∙ new) before);
      }

  pub same_meaning : ((a : OpId) → o.deps a ≡ true → has_id G a ≡ true) → operation_after G s ≡ o
  same_meaning before =
      let seen : o
      ≡ operation_after G s = λ i. record {
        id = m.id i;
        deps = λ a. deps_are_named before a i;
        place = m.place i;
        mutation = m.mutation i;
      } in
      sym seen

  -- an operation is ready where what it depends on is there
  pub ready_where_there : ((a : OpId) → o.deps a ≡ true → has_id G a ≡ true) → is_ready G s ≡ true
  ready_where_there before = ready-from G s (λ p.
      elim (cases_eq (at s.vector p) 0) [
        | inl z ↦ omega arith
        | inr n ↦ (let x = among_from G (id_at (at s.vector p) p) (before (id_at (at s.vector p) p) (depended p n)) in
            let c : x.0.id.counter ≡ at s.vector p = ap (λ (b : OpId). b.counter) x.2 in
            let k : x.0.id.counter ≤ greatest_counter G p = vector_counts G x.0 x.1 p (ap (λ (b : OpId). b.replica) x.2) in
            omega arith)
      ])

  pub there_where_ready : IsLegal F → is_ready G s ≡ true → (a : OpId) → o.deps a ≡ true → has_id G a ≡ true
  there_where_ready lf ready a d =
      let both = and_parts (has_id F a) (covers s.vector a) (sym (m.deps a) ∙ d) in
      let x = among_from F a both.0 in
      let pos : 0 < x.0.id.counter = counter_pos F lf x.0 x.1 in
      let cx : x.0.id.counter ≡ a.counter = ap (λ (b : OpId). b.counter) x.2 in
      let rx : x.0.id.replica ≡ a.replica = ap (λ (b : OpId). b.replica) x.2 in
      let le : a.counter ≤ at s.vector a.replica = covers-at s.vector a both.1 in
      let up : at s.vector a.replica ≤ greatest_counter G a.replica = ready-at G s ready a.replica in
      elim (vector_cases G a.replica) [
        | inl z ↦ absurd (omega arith)
        | inr r ↦ (let e : r.0.id.counter ≡ greatest_counter G a.replica = r.3 in
            elim (chain K lk x.0 r.0 (wf x.0 x.1) (wg r.0 r.1) (rx ∙ sym r.2) (omega arith)) [
              | inl f ↦ has_id-among G r.0 a r.1 (ap (λ (z : Operation). z.id) (sym f) ∙ x.2)
              | inr f ↦ ap (has_id G) (sym x.2) ∙ deps_there G lg r.0 r.1 x.0.id f
            ])
      ]
