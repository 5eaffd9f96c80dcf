-- An operation that may follow has no fault.
use Rattle.std.proofs.Common.{◌≡◌, inl, inr, ℕ, suc, ◌≤◌, Bool, true, false, not, ◌&&◌, ◌==◌, List, [], ◌∷◌, None, refl, sym, ap, ◌∙◌}
use Rattle.std.proofs.Common.{subst, true≢false, arith, le_antisymm}
use Rattle.std.proofs.lemmas.Bool.{or_from, and_parts, and_left, and_right, eq-eqb, not_from_true, cases_eq, ne_eqb}
use Rattle.semantics.specs.Ids.{OpId, id_at}
use Rattle.semantics.specs.Operations.{Operation, element_of}
use Rattle.semantics.specs.LegalHistory.{IsAmong, has_id}
use Rattle.semantics.specs.NamedIds.{greatest_counter, names}
use Rattle.semantics.specs.Vectors.{Vector, at, covers, is_at_most}
use Rattle.semantics.specs.Stamped.{Stamped, operations_of, MayFollow, IsLegalStamped}
use Rattle.semantics.specs.Faults.{StandsAlone, breaks_chain, names_nothing, is_of_nobody, is_open, items_were_inserted, first_fault}
use Rattle.semantics.specs.Faults.{fault_of}
use Rattle.semantics.proofs.AbsentIds.{has_id-among}
use Rattle.semantics.proofs.VectorCounters.{at_most-from, none-from, covers-at}
use Rattle.semantics.proofs.NamedOperations.{vector_cases, follows_named, reached_named, ready_where_follows, meaning_of}
use Rattle.semantics.proofs.ItemTests.{items_cover, items_test}
use Rattle.semantics.proofs.NamedCounters.{greatest_named, named_from}

own_counter : (G : List Operation) (s : Stamped) → MayFollow G s → at s.vector s.id.replica ≡ greatest_counter G s.id.replica
own_counter G s f = le_antisymm (ready_where_follows f s.id.replica)
    (elim (vector_cases G s.id.replica) [
      | inl z ↦ omega arith
      | inr r ↦ (let k = and_parts (has_id G r.0.id) (covers s.vector r.0.id) ((follows_named f).own_in_deps r.0 r.1 r.2) in
          let c : r.0.id.counter ≤ at s.vector s.id.replica = subst (λ (q : ℕ). r.0.id.counter ≤ at s.vector q) r.2
          (covers-at s.vector r.0.id k.1) in
          let e : r.0.id.counter ≡ greatest_counter G s.id.replica = r.3 in
          omega arith)
    ])

none_missing : (G : List Operation) (s : Stamped) → MayFollow G s → (p : ℕ) → is_of_nobody G s.vector p ≡ false
none_missing G s f p =
    elim (cases_eq (at s.vector p) 0) [
      | inl z ↦ and_left (not (at s.vector p == 0)) _ (not_from_true (at s.vector p == 0) (eq-eqb (at s.vector p) 0 z))
      | inr n ↦ and_right (not (at s.vector p == 0)) _ (not_from_true (has_id G (id_at (at s.vector p) p)) (reached_named f p n))
    ]

vectors_within : (H : List Stamped) (s : Stamped) → IsLegalStamped H → MayFollow (operations_of H) s → (x : Stamped) → IsAmong x H
    → x.id.counter ≡ at s.vector x.id.replica → (p : ℕ) → at x.vector p ≤ at s.vector p
vectors_within H s l f x m e p =
    elim (cases_eq (at x.vector p) 0) [
      | inl z ↦ omega arith
      | inr n ↦
          (let o = meaning_of H l x m in
          let G : List Operation = operations_of H in
          let a : OpId = id_at (at x.vector p) p in
          let d : o.0.deps a ≡ true = o.1.deps a ∙ named_from G x.vector a (o.1.attained p n) (omega arith) in
          let c : o.0.id.counter ≤ at s.vector o.0.id.replica =
          subst (λ (b : OpId). b.counter ≤ at s.vector b.replica) (sym o.1.id)
          (let h : x.id.counter ≡ at s.vector x.id.replica = e in omega arith) in
          let named : names G s.vector o.0.id ≡ true = named_from G s.vector o.0.id (has_id-among G o.0 o.0.id o.1.among refl) c in
          covers-at s.vector a (and_parts (has_id G a) (covers s.vector a) ((follows_named f).deps_closed o.0 o.1.among named a d)).1)
    ]

none_open : (v : Vector) (H : List Stamped)
    → ((x : Stamped) → IsAmong x H → x.id.counter ≡ at v x.id.replica → (p : ℕ) → at x.vector p ≤ at v p) → is_open H v ≡ false
none_open v [] h = refl
none_open v (s ∷ H) h =
    or_from ((s.id.counter == at v s.id.replica) && not (is_at_most s.vector v)) (is_open H v)
    (elim (cases_eq s.id.counter (at v s.id.replica)) [
      | inl e ↦ and_right (s.id.counter == at v s.id.replica) _
          (not_from_true (is_at_most s.vector v) (at_most-from s.vector v (h s (inl refl) e)))
      | inr n ↦ and_left (s.id.counter == at v s.id.replica) _ (ne_eqb s.id.counter (at v s.id.replica) n)
    ])
    (none_open v H (λ x m. h x (inr m)))

all_pass : (a b c d : Bool) → a ≡ false → b ≡ false → c ≡ false → d ≡ false → first_fault a b c d ≡ None
all_pass false false false false e f g h = refl
all_pass true b c d e f g h = absurd (true≢false e)
all_pass false true c d e f g h = absurd (true≢false f)
all_pass false false true d e f g h = absurd (true≢false g)
all_pass false false false true e f g h = absurd (true≢false h)

pub no_fault_where_follows : (H : List Stamped) (s : Stamped) → IsLegalStamped H → MayFollow (operations_of H) s → fault_of H s ≡ None
no_fault_where_follows H s l f =
    all_pass (breaks_chain (operations_of H) s) (names_nothing (operations_of H) s) (is_open H s.vector)
    (not (items_were_inserted (operations_of H) (element_of s.place)))
    (not_from_true (at s.vector s.id.replica == greatest_counter (operations_of H) s.id.replica)
    (eq-eqb _ _ (own_counter (operations_of H) s f)))
    (none-from (is_of_nobody (operations_of H) s.vector) s.vector (none_missing (operations_of H) s f))
    (none_open s.vector H (vectors_within H s l f))
    (not_from_true (items_were_inserted (operations_of H) (element_of s.place))
    (items_test (operations_of H) (names (operations_of H) s.vector) (element_of s.place) f.follows.items))

-- what may follow stands alone
pub alone_where_follows : (G : List Operation) (s : Stamped) → MayFollow G s → StandsAlone s
alone_where_follows G s f = record {
  counter = (follows_named f).counter ∙ ap suc (sym (greatest_named G s.vector (reached_named f)));
  form = f.follows.form;
  covered = items_cover G s.vector (element_of s.place) (follows_named f).items;
}
