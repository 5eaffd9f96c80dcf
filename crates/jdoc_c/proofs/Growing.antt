-- What a document answers only extends its history.
use Rattle.std.proofs.Common.{◌≡◌, ℕ, zero, suc, Bool, true, false, cond, List, [], ◌∷◌, length, take, Option, Some, None, Result, Ok}
use Rattle.std.proofs.Common.{inl, inr}
use Rattle.std.proofs.Common.{Err, IfOk, OnErr, refl, ap, sym, subst}
use Rattle.ids.specs.declared.refusal.Refusal.{Refusal}
use Rattle.semantics.specs.Delivery.{Delivered, Kept, Known, NotKept, answer_to, deliver, kept_by}
use Rattle.semantics.specs.Drain.{at_ready, drain_for, first_ready, taken, taken_with}
use Rattle.semantics.specs.Entries.{Own, Peer, stamped_entries}
use Rattle.semantics.specs.Handling.{DrainsTo}
use Rattle.semantics.specs.Joining.{check_fault}
use Rattle.semantics.specs.Making.{is_full}
use Rattle.semantics.specs.Replica.{Replica, commit_own, operations}
use Rattle.semantics.specs.Stamped.{Stamped}
use Rattle.semantics.specs.WorldHistory.{BeginsWith}
use Rattle.semantics.proofs.EntryBeginnings.{begins_self}
use Rattle.semantics.proofs.GrownEngines.{begins_trans}
use Rattle.wire.specs.Bundles.{readable}
use Rattle.session.specs.Receipts.{delivered, is_short, settled}
use Rattle.calls.specs.Calls as call
use Rattle.calls.specs.Calls.{call_form}
use Rattle.calls.specs.declared.response.Response.{Response}
use Rattle.calls.specs.declared.response.Response.TheVariants as said
use Rattle.serving.specs.Desks.{Answers, AnswersCall, AnswersLine, Desk, SaysSaved, length_of, received_of}

-- the histories of these two, the first of which has grown
abbrev Grew : Replica → Replica → Type 0
Grew q r = BeginsWith q.entries r.entries

stays : (q r : Replica) → q ≡ r → Grew q r
stays q r is = subst (λ (t : Replica). BeginsWith t.entries r.entries) (sym is) (begins_self r.entries)

taken_grew : (r : Replica) (s : Stamped) (o : Option Refusal) → Grew (taken_with r s o) r
taken_grew r s None = (Peer s ∷ [], refl)
taken_grew r s (Some why) = begins_self r.entries

turn_grew : (r : Replica) (f : Stamped → Replica) → ((s : Stamped) → Grew (f s) r) → (o : Option Stamped) → Grew (at_ready o r f) r
turn_grew r f each None = begins_self r.entries
turn_grew r f each (Some s) = each s

unless_full : (r q : Replica) → Grew q r → (b : Bool) → Grew (cond b r q) r
unless_full r q grew true = begins_self r.entries
unless_full r q grew false = grew

turns_grew : (n : ℕ) (r : Replica) → Grew (drain_for n r) r
turns_grew zero r = begins_self r.entries
turns_grew (suc n) r =
    let f : Stamped → Replica = λ s. drain_for n (taken r s) in
    let each : (s : Stamped) → Grew (f s) r = λ s. begins_trans (f s).entries (taken r s).entries r.entries (turns_grew n (taken r s))
    (taken_grew r s (check_fault r.members (stamped_entries r.entries) s)) in
    unless_full r (at_ready (first_ready (operations r) r.waiting) r f) (turn_grew r f each (first_ready (operations r) r.waiting))
    (is_full r.entries)

kept_grew : (r : Replica) (s : Stamped) (d : Delivered) → Grew (kept_by r s d) r
kept_grew r s Kept = begins_self r.entries
kept_grew r s Known = begins_self r.entries
kept_grew r s (NotKept why) = begins_self r.entries

delivered_grew : (ss : List Stamped) (r : Replica) → Grew (delivered r ss) r
delivered_grew [] r = begins_self r.entries
delivered_grew (s ∷ ss) r =
    let t : Replica = settled r in
    begins_trans (delivered (deliver t s) ss).entries (deliver t s).entries r.entries (delivered_grew ss (deliver t s))
    (begins_trans (deliver t s).entries t.entries r.entries (kept_grew t s (answer_to t s)) (turns_grew (length r.waiting) r))

drained_grew : (b : Bool) (r q : Replica) → DrainsTo r b q → Grew q r
drained_grew true r q (n, is) = subst (λ (t : Replica). BeginsWith t.entries r.entries) (sym is) (turns_grew n r)
drained_grew false r q is = subst (λ (t : Replica). BeginsWith t.entries r.entries) (sym is) (turns_grew (length r.waiting) r)

saved_grew : (done r : Response) (m n : Desk) (was : Replica) → SaysSaved done m r n → Grew m.replica was → Grew n.replica was
saved_grew done r m n was (is, _) grew = subst (λ (t : Replica). Grew t was) (sym is) grew

same_grew : (m n : Desk) → n ≡ m → Grew n.replica m.replica
same_grew m n is = stays n.replica m.replica (ap (λ (d : Desk). d.replica) is)

call_grew : (c : call.Call) (m n : Desk) (r : Response) → Answers m c r n → Grew n.replica m.replica
call_grew (call.Write c) m n r (inl (s, made, saved)) =
    saved_grew (said.Made s.id (length_of m)) r (record m { replica = commit_own m.replica 0 (length_of m) c s }) n m.replica saved
    (Own 0 (length_of m) c s ∷ [], refl)
call_grew (call.Write c) m n r (inr (why, _, same, _)) = same_grew m n same
call_grew (call.Ask q) m n r (_, same) = same_grew m n same
call_grew (call.Glance steps depth elements) m n r (_, same) = same_grew m n same
call_grew call.Hello m n r (_, same) = same_grew m n same
call_grew (call.Answer hello) m n r (_, same) = same_grew m n same
call_grew (call.Receive bundle) m n r (x, q, receipt, saved) =
    let ss : List Stamped = take x.taken (readable [] bundle).operations in
    saved_grew (received_of x) r (record m { replica = q }) n m.replica saved
    (begins_trans q.entries (delivered m.replica ss).entries m.replica.entries
    (drained_grew (is_short x.stopped) (delivered m.replica ss) q receipt.replica) (delivered_grew ss m.replica))
call_grew call.Save m n r saved = saved_grew (said.Saved (length_of m)) r m n m.replica saved (begins_self m.replica.entries)
call_grew call.Status m n r (_, same) = same_grew m n same

line_grew : (x : Result call.Call Refusal) (m n : Desk) (r : Response) → AnswersCall m x r n → Grew n.replica m.replica
line_grew (Ok c) m n r answers = call_grew c m n r answers
line_grew (Err why) m n r (_, same) = same_grew m n same

-- whether a line was answered or not
pub answered_grew : {E : Type 0} (x : Result Response E) (line : List ℕ) (m n : Desk) → IfOk x (λ r. AnswersLine m line r n)
    → OnErr x (n ≡ m) → BeginsWith n.replica.entries m.replica.entries
answered_grew (Ok r) line m n answers same = line_grew (call_form line) m n r answers
answered_grew (Err why) line m n answers same = same_grew m n same
