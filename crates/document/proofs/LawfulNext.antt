-- What follows an entry history, where the table has room for it, passes all tests of a received operation.
use Rattle.std.proofs.Common.{◌≡◌, ℕ, ◌<◌, true, false, ◌&&◌, List, ◌∷◌, length, Option, None, is_none, ap, ◌∙◌, subst, arith}
use Rattle.std.specs.Prelude.{IsFalse}
use Rattle.std.proofs.lemmas.Bool.{and_from, leb-false}
use Rattle.ids.specs.declared.refusal.Refusal.{Refusal}
use Rattle.ids.specs.Tables.{lacks_room}
use Rattle.semantics.specs.Stamped.{Stamped, IsLegalStamped, MayFollow}
use Rattle.semantics.specs.Faults.{is_ready}
use Rattle.semantics.specs.Making.{is_full}
use Rattle.semantics.specs.Entries.{Entry as TheEntry, IsEntryHistory, applied, stamped_in, stamped_entries}
use Rattle.semantics.specs.Joining.{check_fault, table_after}
use Rattle.semantics.proofs.CheckedFaults.{fitting_fault}
use Rattle.semantics.proofs.VectorCounters.{ready-from}
use Rattle.semantics.proofs.NamedOperations.{legal, ready_where_follows}
use Rattle.semantics.proofs.FollowsFaultless.{no_fault_where_follows}
use Rattle.semantics.proofs.EntryHistories.{entries_legal, length-applied}
use Rattle.semantics.proofs.LawfulAlone.{no_fault_alone}
use Rattle.oplog.specs.operation.declared.command.Entry.{Entry}
use Rattle.oplog.specs.operation.declared.op.Op.{Op}
use Rattle.oplog.specs.operation.Alone.{alone_fault_of_op}
use Rattle.oplog.specs.operation.Ops.{entry_of, op_in, stamped_of}
use Rattle.oplog.proofs.operation.StandingAlone.{stamped_same}
use Rattle.document.specs.Lawful.{is_lawful}

not_full : (G : List TheEntry) → is_full G ≡ false → length G < 1048576
not_full G h = leb-false 1048576 (length G) h

none_alone : (G : List TheEntry) (o : Op) → IsLegalStamped (stamped_entries G) → is_full G ≡ false → MayFollow (applied G) (stamped_of o)
    → alone_fault_of_op o ≡ None
none_alone G o l room may =
    let n : length (applied G) < 1048576 = let few = not_full G room in let same = length-applied G in omega arith in
    no_fault_alone (applied G) (stamped_of o) (legal (stamped_entries G) l) n may

-- what follows an entry history, where the table has room for it, is lawful there
pub lawful_next : (own : ℕ) (ms : List ℕ) (G : List TheEntry) (e : Entry) → IsEntryHistory own (entry_of e ∷ G) → IsFalse (is_full G)
    → IsFalse (lacks_room (table_after ms G) (stamped_in (entry_of e)).id.replica) → is_lawful ms G (op_in e) ≡ true
lawful_next own ms G e h room fits =
    let s : Stamped = stamped_of (op_in e) in
    let l = entries_legal own (entry_of e ∷ G) h in
    let may : MayFollow (applied G) s = subst (λ (t : Stamped). MayFollow (applied G) t) (stamped_same e) l.1 in
    let mine : lacks_room (table_after ms G) s.id.replica
    ≡ false = subst (λ (t : Stamped). lacks_room (table_after ms G) t.id.replica ≡ false) (stamped_same e) fits in
    and_from (is_none (alone_fault_of_op (op_in e)) && is_ready (applied G) s) (is_none (check_fault ms (stamped_entries G) s))
    (and_from (is_none (alone_fault_of_op (op_in e))) (is_ready (applied G) s)
    (ap (λ (f : Option Refusal). is_none f) (none_alone G (op_in e) l.0 room may))
    (ready-from (applied G) s (ready_where_follows may)))
    (ap (λ (f : Option Refusal). is_none f)
    (fitting_fault ms (stamped_entries G) s mine ∙ no_fault_where_follows (stamped_entries G) s l.0 may))
