-- In one world nothing is dropped, unless the table is full.
use Rattle.std.proofs.Common.{◌≡◌, inl, inr, ℕ, zero, suc, Bool, true, false, cond, List, ◌∷◌, Option, Some, None, refl, sym, ap, ◌∙◌}
use Rattle.std.proofs.Common.{subst, nat_le, length, true≢false}
use Rattle.std.proofs.lemmas.Bool.{false_from_ne_true}
use Rattle.semantics.specs.Operations.{Operation}
use Rattle.semantics.specs.LegalHistory.{IsLegal, IsAmong, has_id}
use Rattle.semantics.specs.Stamped.{Stamped, operation_after, operations_of, MayFollow}
use Rattle.semantics.specs.Faults.{is_ready}
use Rattle.semantics.specs.Making.{is_full}
use Rattle.semantics.specs.Entries.{Peer, stamped_entries}
use Rattle.ids.specs.Tables.{lacks_room}
use Rattle.semantics.specs.Joining.{check_fault}
use Rattle.semantics.specs.Replica.{Replica, operations, table_of, has_full_table, IsRunning}
use Rattle.semantics.specs.Drain.{first_ready, taken_with, taken, at_ready, drain_for}
use Rattle.semantics.specs.OneWorld.{AreWithin, IsOfWorld}
use Rattle.semantics.proofs.NamedOperations.{legal, meaning_of}
use Rattle.semantics.proofs.FollowsFaultless.{no_fault_where_follows}
use Rattle.semantics.proofs.ReadyThere.{may_follow_in, same_meaning, there_where_ready}
use Rattle.semantics.proofs.EntryHistories.{entries_legal}
use Rattle.semantics.proofs.CheckedFaults.{lacking_fault, fitting_fault}
use Rattle.semantics.proofs.JoinedReplicas.{full_within, lacking_full}
use Rattle.semantics.proofs.Taken.{taken_running}
use Rattle.semantics.proofs.Waiting.{ready_first, in_without}
use Rattle.semantics.proofs.GrowingWorld.{legal_entries}

pub may_follow_ready : (K : List Operation) → IsLegal K → (r : Replica) → IsRunning r → AreWithin (operations r) K → (s : Stamped)
    → IsOfWorld K s → has_id (operations r) s.id ≡ false → is_ready (operations r) s ≡ true
    → MayFollow (operations r) s × ((o : Operation) × IsAmong o K × (operation_after (operations r) s ≡ o))
may_follow_ready K lk r h w s of new ready =
    let o = meaning_of of.history of.legal s of.there in
    let lr = legal_entries r h in
    let lf = legal of.history of.legal in
    let before = there_where_ready K lk (operations r) (operations_of of.history) lr w of.within s o.0 o.1 lf ready in (
      may_follow_in K lk (operations r) (operations_of of.history) lr w of.within s o.0 o.1 new before,
      (o.0, of.within o.0 o.1.among, same_meaning K lk (operations r) (operations_of of.history) lr w of.within s o.0 o.1 before),
    )

pub record Keeps (K : List Operation) (r d : Replica) : Type 0 where
  pub full : has_full_table r ≡ true → has_full_table d ≡ true
  pub none_dropped : has_full_table d ≡ false → d.dropped ≡ r.dropped
  pub within : AreWithin (operations d) K

pub taken_keeps : (K : List Operation) → IsLegal K → (r : Replica) (s : Stamped) → IsRunning r → AreWithin (operations r) K → IsOfWorld K s
    → IsAmong s r.waiting → is_ready (operations r) s ≡ true
    → Keeps K r (taken r s) × ((x : Stamped) → IsAmong x (taken r s).waiting → IsAmong x r.waiting)
taken_keeps K lk r s h w of m ready =
    by (lacks_room (table_of r) s.id.replica) refl
  where
    may : MayFollow (operations r) s × ((o : Operation) × IsAmong o K × (operation_after (operations r) s ≡ o))
    may = may_follow_ready K lk r h w s of (h.unapplied s m) ready

    KeepsWaiting : Replica → Type 0
    KeepsWaiting d = Keeps K r d × ((x : Stamped) → IsAmong x d.waiting → IsAmong x r.waiting)

    next : (o : Operation) → IsAmong o K → operation_after (operations r) s ≡ o
        → AreWithin (operations (record r { entries = Peer s ∷ r.entries })) K
    next o n e x (inl f) = subst (λ (y : Operation). IsAmong y K) (sym (f ∙ e)) n
    next o n e x (inr k) = w x k

    by : (b : Bool) → lacks_room (table_of r) s.id.replica ≡ b → KeepsWaiting (taken r s)
    by true e = subst KeepsWaiting (sym (ap (taken_with r s) (lacking_fault r.members (stamped_entries r.entries) s e))) (
      record {
        full = λ f. f;
        none_dropped = λ f. absurd (true≢false (sym (lacking_full (table_of r) s.id.replica e) ∙ f));
        within = w;
      },
      λ x n. (in_without s.id r.waiting x n).0,
    )
    by false e =
        let none : check_fault r.members (stamped_entries r.entries) s ≡ None =
        fitting_fault r.members (stamped_entries r.entries) s e
        ∙ no_fault_where_follows (stamped_entries r.entries) s (entries_legal r.own r.entries h.history) may.0 in
        subst KeepsWaiting (sym (ap (taken_with r s) none)) (
          record {
            full = λ f. ap (λ t. nat_le 256 (length t)) (full_within s.id.replica (table_of r) f) ∙ f;
            none_dropped = λ f. refl;
            within = next may.1.0 may.1.1 may.1.2;
          },
          λ x n. (in_without s.id r.waiting x n).0,
        )

pub keeps_for : (K : List Operation) → IsLegal K → (n : ℕ) (r : Replica) → IsRunning r → AreWithin (operations r) K
    → ((s : Stamped) → IsAmong s r.waiting → IsOfWorld K s) → Keeps K r (drain_for n r)
keeps_for K lk zero r h w of = record { full = λ f. f; none_dropped = λ f. refl; within = w }
keeps_for K lk (suc n) r h w of = at_full (λ m k u v. keeps_for K lk n m k u v) (is_full r.entries)
  where
    at_first : ((m : Replica) → IsRunning m → AreWithin (operations m) K → ((s : Stamped) → IsAmong s m.waiting → IsOfWorld K s)
        → Keeps K m (drain_for n m))
        → (f : Option Stamped) → first_ready (operations r) r.waiting ≡ f → Keeps K r (at_ready f r (λ s. drain_for n (taken r s)))
    at_first rest None e = record { full = λ f. f; none_dropped = λ f. refl; within = w }
    at_first rest (Some s) e =
        let got = ready_first (operations r) r.waiting h.rising s e in
        let one = taken_keeps K lk r s h w (of s got.0) got.0 got.1 in
        let later = rest (taken r s) (taken_running r s h got.0) one.0.within (λ x m. of x (one.1 x m)) in
        record {
          full = λ f. later.full (one.0.full f);
          none_dropped = λ f.
              later.none_dropped f
              ∙ one.0.none_dropped (false_from_ne_true (has_full_table (taken r s)) (λ t. true≢false (sym (later.full t) ∙ f)));
          within = later.within;
        }

    at_full : ((m : Replica) → IsRunning m → AreWithin (operations m) K → ((s : Stamped) → IsAmong s m.waiting → IsOfWorld K s)
        → Keeps K m (drain_for n m))
        → (b : Bool) → Keeps K r (cond b r (at_ready (first_ready (operations r) r.waiting) r (λ s. drain_for n (taken r s))))
    at_full rest true = record { full = λ f. f; none_dropped = λ f. refl; within = w }
    at_full rest false = at_first rest (first_ready (operations r) r.waiting) refl
