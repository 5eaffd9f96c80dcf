-- In one world each history that came is applied, where there is room for it.
use Rattle.std.proofs.Common.{◌≡◌, inl, inr, ℕ, ◌≤◌, Bool, true, false, not, cond, List, [], ◌∷◌, refl, sym, ap, ◌∙◌, true≢false, length}
use Rattle.std.proofs.lemmas.Bool.{or_cases, cases_Bool}
use Rattle.semantics.specs.Ids.{OpId, is_same_id}
use Rattle.semantics.specs.Operations.{Operation}
use Rattle.semantics.specs.LegalHistory.{IsLegal, has_id}
use Rattle.semantics.specs.NamedIds.{greatest_counter}
use Rattle.semantics.specs.Vectors.{Vector, at, covers}
use Rattle.semantics.specs.Stamped.{Stamped, operation_after, operations_of, IsLegalStamped}
use Rattle.semantics.specs.Making.{is_full}
use Rattle.semantics.specs.Entries.{missing}
use Rattle.semantics.specs.Replica.{Replica, operations, IsRunning}
use Rattle.semantics.specs.Delivery.{answer_to, deliver}
use Rattle.semantics.specs.Drain.{receive, receive_all}
use Rattle.semantics.specs.OneWorld.{AreWithin, IsOfWorld}
use Rattle.semantics.specs.Exchange.{IsSettled, HasAll}
use Rattle.semantics.proofs.Orders.{ids_from_test}
use Rattle.semantics.proofs.Drained.{drained}
use Rattle.semantics.proofs.Delivered.{delivered}
use Rattle.semantics.proofs.UnionExchange.{covered_there}
use Rattle.semantics.proofs.GrowingWorld.{legal_entries}
use Rattle.semantics.proofs.ReachedWorlds.{received}
use Rattle.semantics.proofs.Room.{bounded}
use Rattle.semantics.proofs.Growing.{receive_grows, still_full}
use Rattle.semantics.proofs.Arriving.{comes_in, lacks_received}
use Rattle.semantics.proofs.ReceivedItems.{same_members}

pub settled_next : (K : List Operation) → IsLegal K → (p : ℕ) (r : Replica) (s : Stamped) → IsSettled K p r → IsOfWorld K s
    → IsSettled K p (receive r s)
settled_next K lk p r s h of = record {
  world = received K lk p r s h.world of;
  end = (drained (deliver r s) (delivered r s h.world.running)).2;
  few = bounded r s h.world.running h.few;
}

pub one_more : (s : Stamped) (F : List Stamped) (d : Replica) → has_id (operations d) s.id ≡ true
    → ((a : OpId) → has_id (operations_of F) a ≡ true → has_id (operations d) a ≡ true) → (a : OpId)
    → has_id (operations_of (s ∷ F)) a ≡ true → has_id (operations d) a ≡ true
one_more s F d t h a e = elim (or_cases (is_same_id s.id a) (has_id (operations_of F) a) e) [
  | inl f ↦ ap (has_id (operations d)) (sym (ids_from_test s.id a f)) ∙ t
  | inr f ↦ h a f
]

all_next : (K : List Operation) → IsLegal K → (p : ℕ) (r d : Replica) (s : Stamped) (F : List Stamped) → IsSettled K p d → HasAll r d F
    → IsLegalStamped (s ∷ F) → AreWithin (operations_of (s ∷ F)) K → HasAll r (receive d s) (s ∷ F)
all_next K lk p r d s F h a l wf = record {
  members = (drained (deliver d s) (delivered d s run)).1.members ∙ same_members d s (answer_to d s) ∙ a.members;
  kept = λ b t. grows.1 b (a.kept b t);
  complete = elim (cases_Bool (is_full d.entries)) [
    | inl e ↦ inl (still_full d s run e)
    | inr e ↦ elim a.complete [
      | inl f ↦ absurd (true≢false (sym f ∙ e))
      | inr (inl k) ↦ inr (inl (k.0, inr k.1, lacks_received d s run k.0.id.replica k.2))
      | inr (inr f) ↦ elim (cases_Bool (has_id (operations d) s.id)) [
        | inl t ↦ inr (inr (one_more s F (receive d s) (grows.1 s.id t) (λ b u. grows.1 b (f b u))))
        | inr t ↦ elim (comes_in K lk p d h.world h.end h.few s F l wf f e t) [
          | inl g ↦ inl g.0
          | inr (inl g) ↦ inr (inr (one_more s F (receive d s) g (λ b u. grows.1 b (f b u))))
          | inr (inr k) ↦ inr (inl (s, inl refl, k))
        ]
      ]
    ]
  ];
}
  where
    run : IsRunning d
    run = h.world.running

    grows : (length d.entries ≤ length (receive d s).entries)
        × ((b : OpId) → has_id (operations d) b ≡ true → has_id (operations (receive d s)) b ≡ true)
    grows = receive_grows d s h.world.running

all_skip : (r d : Replica) (s : Stamped) (F : List Stamped) → HasAll r d F → has_id (operations d) s.id ≡ true → HasAll r d (s ∷ F)
all_skip r d s F a t = record {
  members = a.members;
  kept = a.kept;
  complete = elim a.complete [
    | inl f ↦ inl f
    | inr (inl k) ↦ inr (inl (k.0, inr k.1, k.2))
    | inr (inr f) ↦ inr (inr (one_more s F d t f))
  ];
}

pub complete : (K : List Operation) → IsLegal K → (p : ℕ) (r : Replica) (v : Vector) → IsSettled K p r
    → ((q : ℕ) → at v q ≤ greatest_counter (operations r) q) → (F : List Stamped) → IsLegalStamped F → AreWithin (operations_of F) K
    → IsSettled K p (receive_all r (missing v F)) × HasAll r (receive_all r (missing v F)) F
complete K lk p r v h n [] l wf = (h, record { members = refl; kept = λ a t. t; complete = inr (inr (λ a e. absurd (true≢false (sym e)))) })
complete K lk p r v h n (s ∷ F) l wf = at_test (complete K lk p r v h n F l.0 (λ x m. wf x (inr m))) (covers v s.id) refl
  where
    at_test : IsSettled K p (receive_all r (missing v F)) × HasAll r (receive_all r (missing v F)) F → (b : Bool) → covers v s.id ≡ b
        → (let d : Replica = receive_all r (cond (not b) (s ∷ missing v F) (missing v F)) in IsSettled K p d × HasAll r d (s ∷ F))
    at_test rest true e = (
      rest.0,
      all_skip r (receive_all r (missing v F)) s F rest.1
          (rest.1.kept s.id
          (covered_there K lk r v n (legal_entries r h.world.running) h.world.within (operation_after (operations_of F) s)
          (wf (operation_after (operations_of F) s) (inl refl)) e)),
    )
    at_test rest false e = (
      settled_next K lk p (receive_all r (missing v F)) s rest.0 (record { history = s ∷ F; legal = l; within = wf; there = inl refl }),
      all_next K lk p r (receive_all r (missing v F)) s F rest.0 rest.1 l wf,
    )
