-- What a vector names in a legal history.
use Rattle.std.proofs.Common.{◌≡◌, ◌≢◌, ◌⊎◌, inl, inr, ℕ, suc, ◌<◌, ◌≤◌, Bool, true, false, ◌&&◌, ◌||◌, ◌==◌, List, [], ◌∷◌, refl, sym, ◌∙◌}
use Rattle.std.proofs.Common.{subst, arith}
use Rattle.std.proofs.lemmas.Bool.{or_right, and_right, false_from_ne_true, eqb-true, eq-eqb, cases_eq}
use Rattle.semantics.specs.Ids.{OpId, id_at, is_same_id}
use Rattle.semantics.specs.Operations.{Operation}
use Rattle.semantics.specs.LegalHistory.{IsLegal, Follows, IsAmong, has_id, greatest_of}
use Rattle.semantics.specs.NamedIds.{greatest_counter, names}
use Rattle.semantics.specs.Vectors.{Vector, at, covers}
use Rattle.semantics.specs.Stamped.{Stamped, operation_after, operations_of, MayFollow, IsLegalStamped, Means}
use Rattle.semantics.proofs.Orders.{ids_from_test}
use Rattle.semantics.proofs.LegalFacts.{among_from, counted, greatest_cases}
use Rattle.semantics.proofs.VectorCounters.{covers-at}

pub vector_counts : (G : List Operation) (x : Operation) → IsAmong x G → (p : ℕ) → x.id.replica ≡ p → x.id.counter ≤ greatest_counter G p
vector_counts G x m p e = counted (λ a. a.replica == p) G x m (eq-eqb x.id.replica p e)

pub vector_counts_id : (G : List Operation) (a : OpId) → has_id G a ≡ true → a.counter ≤ greatest_counter G a.replica
vector_counts_id G a h =
    let r = among_from G a h in
    subst (λ (b : OpId). b.counter ≤ greatest_counter G b.replica) r.2 (vector_counts G r.0 r.1 r.0.id.replica refl)

-- the greatest counter of a replica is 0 or that of an operation of it
pub vector_cases : (G : List Operation) (p : ℕ)
    → (greatest_counter G p ≡ 0) ⊎ ((x : Operation) × IsAmong x G × (x.id.replica ≡ p) × (x.id.counter ≡ greatest_counter G p))
vector_cases G p =
    elim (greatest_cases (λ a. a.replica == p) G) [
      | inl e ↦ inl e
      | inr r ↦ inr (r.0, r.1, eqb-true r.0.id.replica p r.2, r.3)
    ]

-- ---- legal histories

pub follows_named : {G : List Operation} {s : Stamped} → MayFollow G s → Follows G (operation_after G s)
follows_named f = f.follows

pub reached_named : {G : List Operation} {s : Stamped} → MayFollow G s → (p : ℕ) → at s.vector p ≢ 0
    → has_id G (id_at (at s.vector p) p) ≡ true
reached_named f = f.attained

pub legal : (H : List Stamped) → IsLegalStamped H → IsLegal (operations_of H)
legal [] l = tt
legal (s ∷ H) l = (legal H l.0, follows_named l.1)

within_reached : (G : List Operation) (v : Vector) (p : ℕ) → (at v p ≢ 0 → has_id G (id_at (at v p) p) ≡ true)
    → at v p ≤ greatest_counter G p
within_reached G v p h =
    elim (cases_eq (at v p) 0) [
      | inl z ↦ omega arith
      | inr n ↦ vector_counts_id G (id_at (at v p) p) (h n)
    ]

-- what may follow is ready
pub ready_where_follows : {G : List Operation} {s : Stamped} → MayFollow G s → (p : ℕ) → at s.vector p ≤ greatest_counter G p
ready_where_follows {G} {s} f p = within_reached G s.vector p (reached_named f p)

-- an operation that follows is greater than all of its replica
pub above_own : (G : List Operation) (o : Operation) → Follows G o → greatest_counter G o.id.replica < o.id.counter
above_own G o f =
    let c : o.id.counter ≡ suc (greatest_of o.deps G) = f.counter in
    elim (vector_cases G o.id.replica) [
      | inl z ↦ omega arith
      | inr r ↦ (let k : r.0.id.counter ≤ greatest_of o.deps G = counted o.deps G r.0 r.1 (f.own_in_deps r.0 r.1 r.2) in
          let e : r.0.id.counter ≡ greatest_counter G o.id.replica = r.3 in omega arith)
    ]

-- What a vector names doesn't change as the history grows, where all that it names was applied.
pub kept_by_next : (G : List Operation) (o : Operation) → Follows G o → (v : Vector) → ((p : ℕ) → at v p ≤ greatest_counter G p)
    → (a : OpId) → names (o ∷ G) v a ≡ names G v a
kept_by_next G o f v h a = at_tests (is_same_id o.id a) (has_id G a) (covers v a) (λ e.
    false_from_ne_true (covers v a) (λ c.
    let i : o.id ≡ a = ids_from_test o.id a e in
    let le : o.id.counter ≤ at v o.id.replica = subst (λ (b : OpId). b.counter ≤ at v b.replica) (sym i) (covers-at v a c) in
    let m : at v o.id.replica ≤ greatest_counter G o.id.replica = h o.id.replica in
    let k : greatest_counter G o.id.replica < o.id.counter = above_own G o f in
    absurd (omega arith)))
  where
    at_tests : (b c d : Bool) → (b ≡ true → d ≡ false) → ((b || c) && d) ≡ (c && d)
    at_tests true c d k = k refl ∙ sym (and_right c d (k refl))
    at_tests false c d k = refl

pub means_first : (H : List Stamped) (s : Stamped) → IsLegalStamped (s ∷ H)
    → Means (operations_of (s ∷ H)) s (operation_after (operations_of H) s)
means_first H s l = record {
  among = inl refl;
  id = refl;
  place = refl;
  mutation = refl;
  deps = λ a. sym
      (kept_by_next (operations_of H) (operation_after (operations_of H) s) (follows_named l.1) s.vector (ready_where_follows l.1) a);
  attained = λ p n. or_right (is_same_id s.id (id_at (at s.vector p) p)) _ (reached_named l.1 p n);
}

means_later : (H : List Stamped) (s : Stamped) → IsLegalStamped (s ∷ H) → (x : Stamped) (o : Operation) → Means (operations_of H) x o
    → Means (operations_of (s ∷ H)) x o
means_later H s l x o m = record {
  among = inr m.among;
  id = m.id;
  place = m.place;
  mutation = m.mutation;
  deps = λ a. m.deps a
      ∙ sym
      (kept_by_next (operations_of H) (operation_after (operations_of H) s) (follows_named l.1) x.vector
      (λ p. within_reached (operations_of H) x.vector p (m.attained p)) a);
  attained = λ p n. or_right (is_same_id s.id (id_at (at x.vector p) p)) _ (m.attained p n);
}

pub meaning_of : (H : List Stamped) → IsLegalStamped H → (x : Stamped) → IsAmong x H → (o : Operation) × Means (operations_of H) x o
meaning_of [] l x m = absurd m
meaning_of (s ∷ H) l x
    (inl e) = (
      operation_after (operations_of H) s,
      subst
          (λ (y : Stamped). Means (operations_of (s ∷ H)) y (operation_after (operations_of H) s)) (sym e) (means_first H s l),
    )
meaning_of (s ∷ H) l x (inr m) = let r = meaning_of H l.0 x m in (r.0, means_later H s l x r.0 r.1)

pub stamped_for : (H : List Stamped) → IsLegalStamped H → (o : Operation) → IsAmong o (operations_of H)
    → (x : Stamped) × IsAmong x H × Means (operations_of H) x o
stamped_for [] l o m = absurd m
stamped_for (s ∷ H) l o (inl e) = (s, inl refl, subst (λ (y : Operation). Means (operations_of (s ∷ H)) s y) (sym e) (means_first H s l))
stamped_for (s ∷ H) l o (inr m) = let r = stamped_for H l.0 o m in (r.0, inr r.1, means_later H s l r.0 o r.2)
