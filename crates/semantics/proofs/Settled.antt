-- After a drain each operation of a history that was delivered is applied.
use Rattle.std.proofs.Common.{◌≡◌, ◌⊎◌, inl, inr, ℕ, Bool, true, false, ◌||◌, List, [], ◌∷◌, Ok, refl, sym, ap, ◌∙◌, true≢false}
use Rattle.std.proofs.lemmas.Bool.{and_parts}
use Rattle.semantics.specs.Ids.{OpId, is_same_id}
use Rattle.semantics.specs.Operations.{Operation}
use Rattle.semantics.specs.LegalHistory.{IsLegal, Follows, IsAmong, has_id}
use Rattle.semantics.specs.Vectors.{covers}
use Rattle.semantics.specs.Stamped.{Stamped, operation_after, operations_of, IsLegalStamped, Means}
use Rattle.semantics.specs.Faults.{is_ready}
use Rattle.semantics.specs.Making.{is_full, Command, make}
use Rattle.semantics.specs.Replica.{Replica, operations, IsRunning}
use Rattle.semantics.specs.Drain.{IsDrained}
use Rattle.semantics.specs.OneWorld.{AreWithin}
use Rattle.semantics.proofs.Orders.{ids_from_test}
use Rattle.semantics.proofs.NamedOperations.{means_first}
use Rattle.semantics.proofs.ReadyThere.{ready_where_there}
use Rattle.semantics.proofs.MadeLawful.{made_lawful}
use Rattle.semantics.proofs.GrowingWorld.{grows_world, legal_entries}

pub settled : (K : List Operation) → IsLegal K → (r : Replica) → IsRunning r → IsDrained r → is_full r.entries ≡ false
    → AreWithin (operations r) K
    → (F : List Stamped) → IsLegalStamped F → AreWithin (operations_of F) K
    → ((s : Stamped) → IsAmong s F → (has_id (operations r) s.id ≡ true) ⊎ IsAmong s r.waiting)
    → (a : OpId) → has_id (operations_of F) a ≡ true → has_id (operations r) a ≡ true
settled K lk r h end few w [] l wf there a e = absurd (true≢false (sym e))
settled K lk r h end few w (s ∷ F) l wf there a e =
    let rest = settled K lk r h end few w F l.0 (λ x m. wf x (inr m)) (λ x m. there x (inr m)) in
    first_or (is_same_id s.id a) refl (has_id (operations_of F) a) refl e (rest a) (here rest (there s (inl refl)))
  where
    here : ((b : OpId) → has_id (operations_of F) b ≡ true → has_id (operations r) b ≡ true)
        → (has_id (operations r) s.id ≡ true) ⊎ IsAmong s r.waiting → has_id (operations r) s.id ≡ true
    here rest (inl t) = t
    here rest (inr m) =
        let o : Operation = operation_after (operations_of F) s in
        let means : Means (operations_of (s ∷ F)) s o = means_first F s l in
        let ready : is_ready (operations r) s ≡ true =
        ready_where_there K lk (operations r) (operations_of (s ∷ F)) (legal_entries r h) w wf s o means
        (λ b d. rest b (and_parts (has_id (operations_of F) b) (covers s.vector b) d).0) in
        elim end [ inl f ↦ absurd (true≢false (sym f ∙ few)) | inr f ↦ absurd (true≢false (sym ready ∙ f s m)) ]

    first_or : (b : Bool) → is_same_id s.id a ≡ b → (c : Bool) → has_id (operations_of F) a ≡ c → (b || c) ≡ true
        → (has_id (operations_of F) a ≡ true → has_id (operations r) a ≡ true) → has_id (operations r) s.id ≡ true
        → has_id (operations r) a ≡ true
    first_or true p c q t rest h = ap (has_id (operations r)) (sym (ids_from_test s.id a p)) ∙ h
    first_or false p c q t rest h = rest (q ∙ t)

pub made_grows_world : (K G : List Operation) (p : ℕ) (c : Command) (o : Operation) → IsLegal K → IsLegal G → AreWithin G K
    → make G p c ≡ Ok o
    → ((x : Operation) → IsAmong x K → x.id.replica ≡ p → has_id G x.id ≡ true) → Follows K o
made_grows_world K G p c o lk lg w k own =
    let f = made_lawful G lg p c o k in
    grows_world K G lk lg w o f.0 f.2 (λ x m e. own x m (e ∙ f.1))
