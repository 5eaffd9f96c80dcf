-- What leaves the inbox of a replica, and what the replica holds then.
use Rattle.std.proofs.Common.{◌≡◌, ◌∷◌, inl, inr, true, false, List, [], Some, sym, ap, ◌∙◌, subst, true≢false}
use Rattle.ids.specs.Members.{is_member}
use Rattle.ids.specs.Tables.{lacks_room}
use Rattle.semantics.specs.Ids.{OpId, is_smaller_id}
use Rattle.semantics.specs.LegalHistory.{IsAmong}
use Rattle.semantics.specs.Stamped.{Stamped, MayFollow}
use Rattle.semantics.specs.Entries.{Peer, applied, stamped_entries}
use Rattle.semantics.specs.Replica.{IsRunning, IsRising, operations}
use Rattle.semantics.specs.Delivery.{is_waiting}
use Rattle.semantics.specs.Drain.{drain_for, without_waiting}
use Rattle.semantics.specs.Joining.{table_after}
use Rattle.semantics.proofs.CheckedFaults.{faultless_parts}
use Rattle.semantics.proofs.EntryHistories.{entries_legal}
use Rattle.semantics.proofs.FaultlessFollows.{follows_without_fault}
use Rattle.semantics.proofs.SkipOrder.{not_itself}
use Rattle.semantics.proofs.Taken.{taken_running}
use Rattle.semantics.proofs.Waiting.{ready_first}
use Rattle.semantics.proofs.Arriving.{waiting_under}
use Rattle.inbox.specs.operation.declared.op.Op.{Op}
use Rattle.inbox.specs.operation.Ops.{stamped_of}
use Rattle.inbox.specs.document.Documents.{Contents, HasRoomFor}
use Rattle.inbox.specs.Inboxes.{StandAlone, waiting_in}
use Rattle.inbox.proofs.Ready.{among_stamped}
use Rattle.replica.specs.Replicas.{Running, IsReplica, IsNextReady, next_of, replica_of}
use Rattle.replica.proofs.Turns.{appending, next_some, turn}

not_smaller : (a b : OpId) → a ≡ b → is_smaller_id a b ≡ true → ⊥
not_smaller a b e smaller = true≢false (sym smaller ∙ ap (is_smaller_id a) (sym e) ∙ not_itself a)

-- an id waits once
pub waits_once : (W : List Stamped) (s t : Stamped) → IsRising W → IsAmong s W → IsAmong t W → s.id ≡ t.id → s ≡ t
waits_once [] s t h m n e = absurd m
waits_once (x ∷ W) s t h (inl m) (inl n) e = m ∙ sym n
waits_once (x ∷ W) s t h (inl m) (inr n) e = absurd (not_smaller x.id t.id (ap (λ (y : Stamped). y.id) (sym m) ∙ e) (h.0 t n))
waits_once (x ∷ W) s t h (inr m) (inl n) e = absurd (not_smaller x.id s.id (ap (λ (y : Stamped). y.id) (sym n) ∙ sym e) (h.0 s m))
waits_once (x ∷ W) s t h (inr m) (inr n) e = waits_once W s t h.1 m n e

-- the next one is among what waits
pub next_among : (r : Running) (s : Stamped) → IsReplica r → next_of (replica_of r) ≡ Some s
    → IsAmong s (waiting_in r.waiting)
next_among r s h next = (ready_first (operations (replica_of r)) (waiting_in r.waiting) h.running.rising s
    (next_some (replica_of r) s next).1).0

-- what stood alone still does where others left
pub still_alone : (r : Running) (ws : List Op) → IsReplica r → ((o : Op) → IsAmong o ws → IsAmong o r.waiting)
    → StandAlone ws
still_alone r ws h left o m = h.alone o (left o m)

-- q is r after one turn, and its invariant holds
pub record IsTurned (r q : Running) : Type 0 where
  pub after : replica_of q ≡ drain_for 1 (replica_of r)
  pub good : IsReplica q

-- r is q, whose next one has this id
module _ (r q : Running) (h : IsReplica r) (is : r ≡ q) (a : OpId) (n : (s : Stamped) × (s.id ≡ a) × IsNextReady q s) where
  here : IsNextReady r n.0
  here = subst (λ r. IsNextReady r n.0) (sym is) n.2

  among : IsAmong n.0 (waiting_in r.waiting)
  among = next_among r n.0 h here.next

  -- it waits
  pub next_waits : is_waiting (waiting_in r.waiting) a ≡ true
  next_waits = subst (λ a. is_waiting (waiting_in r.waiting) a ≡ true) n.1
      (waiting_under (waiting_in r.waiting) n.0 among)

  -- what has its id is that
  pub has_its_id : (o : Op) → (o.id ≡ a) × IsAmong o r.waiting → stamped_of o ≡ n.0
  has_its_id o got = waits_once (waiting_in r.waiting) (stamped_of o) n.0 h.running.rising
      (among_stamped r.waiting o got.1) among (got.0 ∙ sym n.1)

  -- there is room for it
  pub next_room : (o : Op) → (o.id ≡ a) × IsAmong o r.waiting → HasRoomFor r.document (stamped_of o)
  next_room o got = subst (HasRoomFor r.document) (sym (has_its_id o got)) here.room

  -- it may follow
  pub next_may_follow : (o : Op) → (o.id ≡ a) × IsAmong o r.waiting
      → MayFollow (applied r.document.entries) (stamped_of o)
  next_may_follow o got = subst (MayFollow (applied r.document.entries)) (sym (has_its_id o got))
      (follows_without_fault (stamped_entries r.document.entries) n.0 (entries_legal r.own r.document.entries h.running.history)
      (h.running.alone n.0 among)
      (faultless_parts r.document.members (stamped_entries r.document.entries) n.0 here.faultless).1)

  -- and its replica fits into the table
  pub next_fits : (o : Op) → (o.id ≡ a) × IsAmong o r.waiting
      → lacks_room (table_after r.document.members r.document.entries) o.id.replica ≡ false
  next_fits o got = subst (λ (s : Stamped). lacks_room (table_after r.document.members r.document.entries) s.id.replica ≡ false)
      (sym (has_its_id o got)) (faultless_parts r.document.members (stamped_entries r.document.entries) n.0 here.faultless).0

  -- where it was taken and appended, one turn was made
  pub appended : (o : Op) → (o.id ≡ a) × IsAmong o r.waiting → (d : Contents) (ws : List Op)
      → waiting_in ws ≡ without_waiting a (waiting_in r.waiting)
      → ((o : Op) → IsAmong o ws → IsAmong o r.waiting) → d.members ≡ r.document.members
      → d.entries ≡ Peer (stamped_of o) ∷ r.document.entries → IsTurned q (record r { document = d; waiting = ws })
  appended o got d ws left kept table entries =
      record { after = turned ∙ ap (λ (r : Running). drain_for 1 (replica_of r)) is; good = good }
    where
      turned : replica_of (record r { document = d; waiting = ws }) ≡ drain_for 1 (replica_of r)
      turned =
          (λ i. record { own = r.own; members = table i; entries = entries i; waiting = waiting_in ws; dropped = r.dropped })
          ∙ (λ i. record (replica_of r) {
            entries = Peer (has_its_id o got i) ∷ r.document.entries;
            waiting = (left ∙ ap (λ a. without_waiting a (waiting_in r.waiting)) (sym n.1)) i;
          })
          ∙ sym (appending (replica_of r) n.0 here.next here.faultless)

      good : IsReplica (record r { document = d; waiting = ws })
      good = record {
        running = subst IsRunning (sym (turned ∙ turn (replica_of r) n.0 here.next)) (taken_running (replica_of r) n.0 h.running among);
        member = ap (λ ps. is_member ps r.own) table ∙ h.member;
        alone = still_alone r ws h kept;
        count = h.count;
      }
