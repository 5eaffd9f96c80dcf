-- In one world what waits stays or is applied, or the table lacks room for its replica.
use Rattle.std.proofs.Common.{◌≡◌, ◌⊎◌, inl, inr, ℕ, zero, suc, Bool, true, false, not, cond, List, [], ◌∷◌, Option, Some, None, refl}
use Rattle.std.proofs.Common.{sym, ap, ◌∙◌, subst, true≢false}
use Rattle.std.proofs.lemmas.Bool.{or_left, or_right, cases_Bool}
use Rattle.semantics.specs.Ids.{OpId, is_same_id}
use Rattle.semantics.specs.Operations.{Operation}
use Rattle.semantics.specs.LegalHistory.{IsLegal, has_id, IsAmong}
use Rattle.semantics.specs.Stamped.{Stamped}
use Rattle.semantics.specs.Faults.{fault_of}
use Rattle.semantics.specs.Making.{is_full}
use Rattle.semantics.specs.Entries.{stamped_entries}
use Rattle.ids.specs.Tables.{lacks_room}
use Rattle.ids.specs.declared.refusal.Refusal.TheVariants.{UnknownReplica}
use Rattle.semantics.specs.Replica.{Replica, operations, table_of, IsRunning}
use Rattle.semantics.specs.Drain.{first_ready, without_waiting, taken_with, taken, at_ready, drain_for}
use Rattle.semantics.specs.OneWorld.{AreWithin, IsOfWorld}
use Rattle.semantics.proofs.Orders.{ids_from_test, id_tested}
use Rattle.semantics.proofs.CheckedFaults.{lacking_fault, fitting_fault}
use Rattle.semantics.proofs.JoinedReplicas.{lacks_within}
use Rattle.semantics.proofs.FollowsFaultless.{no_fault_where_follows}
use Rattle.semantics.proofs.EntryHistories.{entries_legal}
use Rattle.semantics.proofs.Taken.{taken_running}
use Rattle.semantics.proofs.Waiting.{ready_first}
use Rattle.semantics.proofs.NoneDropped.{taken_keeps, may_follow_ready}

in_without_other : (a : OpId) (W : List Stamped) (x : Stamped) → IsAmong x W → is_same_id x.id a ≡ false → IsAmong x (without_waiting a W)
in_without_other a [] x m n = absurd m
in_without_other a (y ∷ W) x m n = at_test (λ k. in_without_other a W x k n) (is_same_id y.id a) refl m
  where
    at_test : (IsAmong x W → IsAmong x (without_waiting a W)) → (t : Bool) → is_same_id y.id a ≡ t → IsAmong x (y ∷ W)
        → IsAmong x (cond (not t) (y ∷ without_waiting a W) (without_waiting a W))
    at_test rest true e (inl f) = absurd (true≢false (sym (ap (λ (z : Stamped). is_same_id z.id a) f ∙ e) ∙ n))
    at_test rest true e (inr k) = rest k
    at_test rest false e (inl f) = inl f
    at_test rest false e (inr k) = inr (rest k)

-- the operation waits, or is applied, or the table lacks room for its replica
abbrev pub Stays : Replica → Stamped → Type 0
Stays r x = IsAmong x r.waiting ⊎ (has_id (operations r) x.id ≡ true) ⊎ (lacks_room (table_of r) x.id.replica ≡ true)

-- where one leaves with no fault against the history, each other stays
stays_taken : (r : Replica) (s x : Stamped) → fault_of (stamped_entries r.entries) s ≡ None → Stays r x → Stays (taken r s) x
stays_taken r s x none h = by (lacks_room (table_of r) s.id.replica) refl
  where
    dropped : lacks_room (table_of r) s.id.replica ≡ true → Stays r x → Stays (taken_with r s (Some UnknownReplica)) x
    dropped e (inr k) = inr k
    dropped e (inl m) = elim (cases_Bool (is_same_id x.id s.id)) [
      | inl f ↦ inr (inr (ap (λ (a : OpId). lacks_room (table_of r) a.replica) (ids_from_test x.id s.id f) ∙ e))
      | inr f ↦ inl (in_without_other s.id r.waiting x m f)
    ]

    appended : Stays r x → Stays (taken_with r s None) x
    appended (inr (inr l)) = inr (inr (lacks_within s.id.replica (table_of r) x.id.replica l))
    appended (inr (inl t)) = inr (inl (or_right (is_same_id s.id x.id) (has_id (operations r) x.id) t))
    appended (inl m) = elim (cases_Bool (is_same_id x.id s.id)) [
      | inl e ↦
          inr (inl (or_left (is_same_id s.id x.id) (has_id (operations r) x.id) (id_tested s.id x.id (sym (ids_from_test x.id s.id e)))))
      | inr e ↦ inl (in_without_other s.id r.waiting x m e)
    ]

    by : (b : Bool) → lacks_room (table_of r) s.id.replica ≡ b → Stays (taken r s) x
    by true e = subst (λ (d : Replica). Stays d x)
        (sym (ap (taken_with r s) (lacking_fault r.members (stamped_entries r.entries) s e))) (dropped e h)
    by false e = subst (λ (d : Replica). Stays d x)
        (sym (ap (taken_with r s) (fitting_fault r.members (stamped_entries r.entries) s e ∙ none))) (appended h)

pub stay_for : (K : List Operation) → IsLegal K → (n : ℕ) (r : Replica) → IsRunning r → AreWithin (operations r) K
    → ((s : Stamped) → IsAmong s r.waiting → IsOfWorld K s) → (x : Stamped) → Stays r x → Stays (drain_for n r) x
stay_for K lk zero r h w of x m = m
stay_for K lk (suc n) r h w of x m = at_full (λ q k u v t. stay_for K lk n q k u v x t) (is_full r.entries)
  where
    at_first : ((q : Replica) → IsRunning q → AreWithin (operations q) K → ((s : Stamped) → IsAmong s q.waiting → IsOfWorld K s)
        → Stays q x → Stays (drain_for n q) x)
        → (f : Option Stamped) → first_ready (operations r) r.waiting ≡ f → Stays (at_ready f r (λ s. drain_for n (taken r s))) x
    at_first rest None e = m
    at_first rest (Some s) e =
        let got = ready_first (operations r) r.waiting h.rising s e in
        let one = taken_keeps K lk r s h w (of s got.0) got.0 got.1 in
        let may = may_follow_ready K lk r h w s (of s got.0) (h.unapplied s got.0) got.1 in
        let none : fault_of (stamped_entries r.entries) s
        ≡ None = no_fault_where_follows (stamped_entries r.entries) s (entries_legal r.own r.entries h.history) may.0 in
        rest (taken r s) (taken_running r s h got.0) one.0.within (λ y k. of y (one.1 y k)) (stays_taken r s x none m)

    at_full : ((q : Replica) → IsRunning q → AreWithin (operations q) K → ((s : Stamped) → IsAmong s q.waiting → IsOfWorld K s)
        → Stays q x → Stays (drain_for n q) x)
        → (b : Bool) → Stays (cond b r (at_ready (first_ready (operations r) r.waiting) r (λ s. drain_for n (taken r s)))) x
    at_full rest true = m
    at_full rest false = at_first rest (first_ready (operations r) r.waiting) refl
