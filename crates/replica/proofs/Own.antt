-- What a replica makes of a command, as what publishes its entries takes it.
use Rattle.std.proofs.Common.{◌≡◌, ℕ, Bool, true, false, cond, nat_le, List, [], ◌∷◌, Result, Ok, Err, refl, sym, ap, ◌∙◌, subst}
use Rattle.ids.specs.declared.refusal.Refusal.{Refusal}
use Rattle.ids.specs.declared.refusal.Refusal.TheVariants.{HistoryFull}
use Rattle.semantics.specs.Operations.{Operation}
use Rattle.semantics.specs.NamedIds.{NamesAll}
use Rattle.semantics.specs.Stamped.{Stamped, operation_after}
use Rattle.semantics.specs.Making.{Command, is_full, make}
use Rattle.semantics.specs.Entries.{Entry, Own, applied, IsAbove, IsEntryHistory}
use Rattle.semantics.specs.Replica.{Replica, IsRunning}
use Rattle.ids.specs.Members.{is_member}
use Rattle.ids.specs.Tables.{lacks_room}
use Rattle.semantics.specs.Joining.{table_after}
use Rattle.semantics.proofs.JoinedReplicas.{room_after}
use Rattle.semantics.proofs.AppliedVectors.{at-vector_of}
use Rattle.semantics.proofs.EntryHistories.{length-applied}
use Rattle.semantics.proofs.HandledItems.{as_stamped}
use Rattle.semantics.specs.Publication.{Publication, Holds}
use Rattle.inbox.specs.operation.declared.op.Op.{Op}
use Rattle.inbox.specs.operation.declared.command.Command.{Command as ACommand}
use Rattle.inbox.specs.operation.declared.command.Entry.{Entry as AnEntry}
use Rattle.inbox.specs.operation.declared.command.Entry.TheVariants as entry
use Rattle.inbox.specs.operation.Ops.{command_of, entry_of, stamped_of}
use Rattle.inbox.specs.document.Documents.{HasRoomFor}
use Rattle.replica.specs.Replicas.{Running, IsMade, IsNextOwn, replica_of}

-- a command at the end of a legal history, made by the rules, gives a legal history
own_history : (p client serial : ℕ) (c : Command) (G : List Entry) (s : Stamped) → IsEntryHistory p G → IsAbove client serial G
    → IsMade G p c s → IsEntryHistory p (Own client serial c s ∷ G)
own_history p client serial c G s h above made =
    let r : Replica = record { own = p; members = []; entries = G; waiting = []; dropped = 0 } in
    let is = subst (λ (t : Stamped). NamesAll (applied G) t.vector × (make (applied G) p c ≡ Ok (operation_after (applied G) t)))
    (sym made.2)
    (at-vector_of (applied G), made.1 ∙ (λ i. Ok (as_stamped r c made.0 h made.1 i))) in (h, is.0, is.1, above)

-- an entry of a clone of the command can be appended next
pub made_of : (r : Running) (client serial : ℕ) (c d : ACommand) (o : Op) → d ≡ c
    → IsMade r.document.entries r.own (command_of c) (stamped_of o)
    → HasRoomFor r.document (stamped_of o) → IsAbove client serial r.document.entries
    → IsNextOwn r (entry.Own client serial d o)
made_of r client serial c d o is made room above = record {
  made = subst (λ (x : ACommand). IsMade r.document.entries r.own (command_of x) (stamped_of o)) (sym is) made;
  room = room;
  above = above;
}

-- what publishes the entries of r holds just those
module _ (h : Publication) (r : Running) (k : Holds h (replica_of r)) where
  pub lawful : IsRunning (replica_of r) → (e : AnEntry) → IsNextOwn r e → IsEntryHistory h.own (entry_of e ∷ h.appended)
  lawful running (entry.Own client serial c o) n =
      let base = own_history r.own client serial (command_of c) r.document.entries
      (stamped_of o) running.history n.above n.made in
      subst (λ p. IsEntryHistory p (Own client serial (command_of c) (stamped_of o) ∷ h.appended)) (sym k.own)
      (subst (λ ps. IsEntryHistory r.own (Own client serial (command_of c) (stamped_of o) ∷ h.appended)) (sym k.members)
      (subst (λ G. IsEntryHistory r.own (Own client serial (command_of c) (stamped_of o) ∷ G)) (sym k.appended) base))
  lawful running (entry.Peer o) n = absurd n

  pub room : (e : AnEntry) → IsNextOwn r e → is_full h.appended ≡ false
  room (entry.Own client serial c o) n = ap (is_full {X = Entry}) k.appended
      ∙ (sym (ap (nat_le 1048576) (length-applied r.document.entries)) ∙ by (is_full (applied r.document.entries)) refl _ n.made.1)
    where
      by : (b : Bool) → is_full (applied r.document.entries) ≡ b → (x : Result Operation Refusal)
          → cond b (Err HistoryFull) x ≡ Ok n.made.0 → is_full (applied r.document.entries) ≡ false
      by true e x is = absurd (let z : ⊥ = cc in z)
      by false e x is = e
  room (entry.Peer o) n = absurd n

  -- a member always fits into the table
  pub fits : (p : ℕ) → is_member r.document.members p ≡ true → lacks_room (table_after h.members h.appended) p ≡ false
  fits p member = ap (λ ps. lacks_room (table_after ps h.appended) p) k.members ∙ room_after r.document.members p member h.appended
