-- A vector that names all that was applied: each counter is that of an operation, and each operation's vector is at most this.
use Rattle.std.proofs.Common.{◌≡◌, ℕ, ◌≤◌, Bool, true, false, not, ◌&&◌, ◌||◌, ◌==◌, List, [], ◌∷◌, refl, ap, ◌∙◌, arith}
use Rattle.std.proofs.Common.{inl, inr}
use Rattle.std.specs.List.{list_any}
use Rattle.std.proofs.lemmas.Bool.{and_left, and_right, cases_eq, eq-eqb, not_from_true}
use Rattle.semantics.specs.Ids.{id_at}
use Rattle.semantics.specs.Operations.{Operation}
use Rattle.semantics.specs.LegalHistory.{IsAmong, has_id}
use Rattle.semantics.specs.Vectors.{Vector, at, is_at_most}
use Rattle.semantics.specs.NamedIds.{NamesAll, greatest_counter, vector_of}
use Rattle.semantics.specs.Stamped.{Stamped, IsLegalStamped, operations_of}
use Rattle.semantics.specs.Faults.{is_of_nobody, is_open}
use Rattle.semantics.proofs.AppliedVectors.{at-vector_of}
use Rattle.semantics.proofs.EntryHistories.{all_named}
use Rattle.semantics.proofs.NamedOperations.{meaning_of, vector_counts_id}
use Rattle.semantics.proofs.VectorCounters.{at_most-from, none-from}

-- the vector of all that was applied names all of it
pub applied_names_all : (H : List Operation) (v : Vector) → v ≡ vector_of H → NamesAll H v
applied_names_all H v same p = ap (λ w. at w p) same ∙ at-vector_of H p

pub none_unknown : (H : List Operation) (v : Vector) → NamesAll H v → list_any (λ a. is_of_nobody H v a.replica) v ≡ false
none_unknown H v all = none-from (is_of_nobody H v) v (λ p. elim (cases_eq (at v p) 0) [
  | inl z ↦ and_left (not (at v p == 0)) _ (not_from_true (at v p == 0) (eq-eqb (at v p) 0 z))
  | inr n ↦ and_right (not (at v p == 0)) _ (not_from_true (has_id H (id_at (at v p) p)) ((all_named H v all).attained p n))
])

none_open : (v : Vector) (H : List Stamped) → ((x : Stamped) → IsAmong x H → (p : ℕ) → at x.vector p ≤ at v p) → is_open H v ≡ false
none_open v [] h = refl
none_open v (s ∷ H) h =
    neither ((s.id.counter == at v s.id.replica) && not (is_at_most s.vector v)) (is_open H v)
    (and_right (s.id.counter == at v s.id.replica) _ (not_from_true (is_at_most s.vector v) (at_most-from s.vector v (h s (inl refl)))))
    (none_open v H (λ x m. h x (inr m)))
  where
    neither : (a b : Bool) → a ≡ false → b ≡ false → (a || b) ≡ false
    neither true b e f = e
    neither false b e f = f

pub all_closed : (H : List Stamped) (v : Vector) → IsLegalStamped H → NamesAll (operations_of H) v → is_open H v ≡ false
all_closed H v legal all = none_open v H (λ x m p. elim (cases_eq (at x.vector p) 0) [
  | inl z ↦ omega arith
  | inr n ↦
      (let o = meaning_of H legal x m in
      let named : at x.vector p ≤ greatest_counter (operations_of H) p =
      vector_counts_id (operations_of H) (id_at (at x.vector p) p) (o.1.attained p n) in
      let is : at v p ≡ greatest_counter (operations_of H) p = all p in
      omega arith)
])
