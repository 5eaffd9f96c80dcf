-- What a replica appends of its own.
use Rattle.std.proofs.Common.{◌≡◌, ℕ, [], ◌∷◌, List, Ok, sym, ap, ◌∙◌, subst}
use Rattle.std.specs.Prelude.{IsTrue}
use Rattle.ids.specs.Members.{is_member}
use Rattle.semantics.specs.NamedIds.{NamesAll}
use Rattle.semantics.specs.Stamped.{Stamped, operation_after, MayFollow}
use Rattle.semantics.specs.Making.{Command, make}
use Rattle.semantics.specs.Entries.{Entry, Own, applied, stamped_entries, stamped_in, IsAbove, IsEntryHistory}
use Rattle.semantics.specs.Replica.{Replica, IsRunning, commit_own}
use Rattle.semantics.proofs.AppliedVectors.{at-vector_of}
use Rattle.semantics.proofs.Delivered.{own_committed}
use Rattle.semantics.proofs.EntryHistories.{entries_legal}
use Rattle.semantics.proofs.NamedOperations.{legal}
use Rattle.semantics.proofs.MadeLawful.{made_lawful}
use Rattle.semantics.proofs.HandledItems.{as_stamped}
use Rattle.inbox.specs.operation.declared.command.Entry.{Entry as AnEntry}
use Rattle.inbox.specs.operation.declared.command.Entry.TheVariants as entry
use Rattle.inbox.specs.operation.Ops.{command_of, entry_of, stamped_of}
use Rattle.inbox.specs.document.Documents.{Contents, HasRoomFor}
use Rattle.replica.specs.Replicas.{Running, IsMade, IsNextOwn, IsReplica, replica_of}
use Rattle.inbox.specs.Inboxes.{waiting_in}

module _ (p client serial : ℕ) (c : Command) (G : List Entry) (s : Stamped) (h : IsEntryHistory p G) (above : IsAbove client serial G)
    (made : IsMade G p c s) where
  -- what was made of a command is what the definitions make, with the vector of all that was applied
  made_as_stamped : NamesAll (applied G) s.vector × (make (applied G) p c ≡ Ok (operation_after (applied G) s))
  made_as_stamped =
      let r : Replica = record { own = p; members = []; entries = G; waiting = []; dropped = 0 } in
      subst (λ (t : Stamped). NamesAll (applied G) t.vector × (make (applied G) p c ≡ Ok (operation_after (applied G) t))) (sym made.2)
      (at-vector_of (applied G), made.1 ∙ (λ i. Ok (as_stamped r c made.0 h made.1 i)))

  -- it may follow
  pub may_append : MayFollow (applied G) s
  may_append = (entries_legal p (Own client serial c s ∷ G) (h, made_as_stamped.0, made_as_stamped.1, above)).1

  -- and is of the replica that made it
  pub made_by : s.id.replica ≡ p
  made_by = ap (λ (t : Stamped). t.id.replica) made.2
      ∙ (made_lawful (applied G) (legal (stamped_entries G) (entries_legal p G h)) p c made.0 made.1).1

-- the replica after its document got an own entry
pub own_appended : (r : Running) (d : Contents) (client serial : ℕ) (c : Command) (s : Stamped) → IsReplica r
    → IsMade r.document.entries r.own c s → IsAbove client serial r.document.entries
    → d.members ≡ r.document.members → d.entries ≡ Own client serial c s ∷ r.document.entries → IsReplica (record r { document = d })
own_appended r d client serial c s h made above table entries =
    let stamped = made_as_stamped r.own client serial c r.document.entries s h.running.history above made in
    let next : replica_of (record r { document = d })
    ≡ commit_own
    (replica_of r) client serial c s = λ i. record {
      own = r.own;
      members = table i;
      entries = entries i;
      waiting = waiting_in r.waiting;
      dropped = r.dropped;
    } in
    record {
      running = subst IsRunning (sym next) (own_committed (replica_of r) client serial c s h.running stamped.0 stamped.1 above);
      member = ap (λ ps. is_member ps r.own) table ∙ h.member;
      alone = h.alone;
      count = h.count;
    }

-- the next own entry of a replica
module _ (r : Running) where
  pub own_room : (e : AnEntry) → IsNextOwn r e → HasRoomFor r.document (stamped_in (entry_of e))
  own_room (entry.Own client serial c o) n = n.room
  own_room (entry.Peer o) n = absurd n

  pub own_follows : IsReplica r → (e : AnEntry) → IsNextOwn r e
      → MayFollow (applied r.document.entries) (stamped_in (entry_of e))
  own_follows h (entry.Own client serial c o) n =
      may_append r.own client serial (command_of c) r.document.entries (stamped_of o) h.running.history n.above n.made
  own_follows h (entry.Peer o) n = absurd n

  pub own_member : IsReplica r → (e : AnEntry) → IsNextOwn r e
      → IsTrue (is_member r.document.members (stamped_in (entry_of e)).id.replica)
  own_member h (entry.Own client serial c o) n = subst (λ q. IsTrue (is_member r.document.members q))
      (sym (made_by r.own client serial (command_of c) r.document.entries (stamped_of o) h.running.history n.above n.made))
      h.member
  own_member h (entry.Peer o) n = absurd n

  pub own_next : IsReplica r → (e : AnEntry) → IsNextOwn r e → (d : Contents) → d.members ≡ r.document.members
      → d.entries ≡ entry_of e ∷ r.document.entries → IsReplica (record r { document = d })
  own_next h (entry.Own client serial c o) n d table entries =
      own_appended r d client serial (command_of c) (stamped_of o) h n.made n.above table entries
  own_next h (entry.Peer o) n d table entries = absurd n
