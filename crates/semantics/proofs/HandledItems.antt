-- What a replica makes of an item extends its entry history, and the reply is legal.
use Rattle.std.proofs.Common.{◌≡◌, inl, ℕ, ◌<◌, ◌≤◌, false, nat_lt, [], ◌∷◌, length, Result, Ok, Err, refl, sym, ◌∙◌, subst}
use Rattle.std.proofs.lemmas.Bool.{le-ltb}
use Rattle.ids.specs.declared.refusal.Refusal.{Refusal}
use Rattle.semantics.specs.Ids.{OpId}
use Rattle.semantics.specs.Operations.{Operation}
use Rattle.semantics.specs.NamedIds.{vector_of, names}
use Rattle.semantics.specs.Stamped.{operation_after}
use Rattle.semantics.specs.Making.{Command, make}
use Rattle.semantics.specs.Entries.{Own, stamped_entries, IsAbove, IsEntryHistory}
use Rattle.semantics.specs.LegalAnswer.{Request, OfCommand, OfPeer, Submitted, Reply}
use Rattle.semantics.specs.Replica.{Replica, operations, IsRunning}
use Rattle.semantics.specs.Delivery.{answer_to}
use Rattle.semantics.specs.Drain.{counted, receive}
use Rattle.semantics.specs.PeerAnswers.{IsPeerAnswer}
use Rattle.semantics.specs.WriteSteps.{stamp, after_made, reply_made, after_request, reply_requested, after_submission, reply_to}
use Rattle.semantics.specs.WriteSteps.{reply_delivered}
use Rattle.semantics.specs.WorldHistory.{BeginsWith}
use Rattle.semantics.proofs.NamedOperations.{legal}
use Rattle.semantics.proofs.AppliedVectors.{at-vector_of}
use Rattle.semantics.proofs.MadeLawful.{made_lawful}
use Rattle.semantics.proofs.EntryHistories.{all_named, entries_legal}
use Rattle.semantics.proofs.OwnReplies.{own_made, own_refused}
use Rattle.semantics.proofs.Delivered.{own_committed}
use Rattle.semantics.proofs.LastingAnswers.{IsGoodReply}
use Rattle.semantics.proofs.PeerReceipts.{receipt}
use Rattle.semantics.proofs.ReceivedItems.{received}

-- the replica t after the item x, and the reply to it
pub record IsHandled (r : Replica) (x : Submitted) (t : Replica) (reply : Reply) : Type 0 where
  pub own : t.own ≡ r.own
  pub members : t.members ≡ r.members
  pub entries : BeginsWith t.entries r.entries
  pub running : IsRunning t
  pub good : IsGoodReply t.own t.members t.entries x reply
  -- it has no other serial of a client than x's that wasn't there before
  pub above : (client serial : ℕ) → IsAbove client serial r.entries → (x.client ≡ client → x.serial < serial)
      → IsAbove client serial t.entries

-- the vector of all that was applied says what the operation depends on
pub as_stamped : (r : Replica) (c : Command) (o : Operation) → IsEntryHistory r.own r.entries → make (operations r) r.own c ≡ Ok o
    → o ≡ operation_after (operations r) (stamp (operations r) o)
as_stamped r c o h e = λ i. record { id = o.id; deps = λ a. deps a i; place = o.place; mutation = o.mutation }
  where
    deps : (a : OpId) → o.deps a ≡ names (operations r) (vector_of (operations r)) a
    deps a = (made_lawful (operations r) (legal (stamped_entries r.entries) (entries_legal r.own r.entries h)) r.own c o e).2 a
        ∙ (all_named (operations r) (vector_of (operations r)) (at-vector_of (operations r))).same a

made : (r : Replica) (x : Submitted) (c : Command) → x.request ≡ OfCommand c → IsRunning r → IsAbove x.client x.serial r.entries
    → x.floor ≤ length r.entries
    → (m : Result Operation Refusal) → make (operations r) r.own c ≡ m → IsHandled r x (after_made r x c m) (reply_made r m)
made r x c is h above floor (Err why) e = record {
  own = refl;
  members = refl;
  entries = ([], refl);
  running = h;
  good = (rw is (own_refused r.own r.entries x c why above e, inl floor), floor);
  above = λ client serial a l. a;
}
made r x c is h above floor (Ok o) e = record {
  own = refl;
  members = refl;
  entries = (Own x.client x.serial c (stamp (operations r) o) ∷ [], refl);
  running = own_committed r x.client x.serial c (stamp (operations r) o) h (at-vector_of (operations r))
      (e ∙ (λ i. Ok (as_stamped r c o h.history e i))) above;
  good = (rw is (own_made r.own r.entries x c (stamp (operations r) o), floor), floor);
  above = λ client serial a l. (l, a);
}

requested : (r : Replica) (x : Submitted) → IsRunning r → IsAbove x.client x.serial r.entries → x.floor ≤ length r.entries
    → (q : Request) → x.request ≡ q → IsHandled r x (after_request r x q) (reply_requested r q)
requested r x h above floor (OfCommand c) is = made r x c is h above floor (make (operations r) r.own c) refl
requested r x h above floor (OfPeer s) is =
    let got = received r s h in
    let t : Replica = counted (receive r s) in
    let y : Reply = reply_delivered (length t.entries) (answer_to r s) in
    let here : IsPeerAnswer r.own r.members t.entries x s y =
    receipt r x s got.entries.0 t.entries got.entries.1 floor (answer_to r s) refl in
    let there : IsPeerAnswer t.own t.members t.entries x s y =
    subst (λ p. IsPeerAnswer p t.members t.entries x s y) (sym got.own)
    (subst (λ ps. IsPeerAnswer r.own ps t.entries x s y) (sym got.members) here) in
    record {
      own = got.own;
      members = got.members;
      entries = got.entries;
      running = got.running;
      good = (rw is there, got.floor x.floor floor);
      above = λ client serial a l. got.above client serial a;
    }

-- An item whose floor isn't above the history is handled, and never refused for its floor.
pub handled : (r : Replica) (x : Submitted) → IsRunning r → IsAbove x.client x.serial r.entries → x.floor ≤ length r.entries
    → IsHandled r x (after_submission r x) (reply_to r x)
handled r x h above floor =
    let test : nat_lt (length r.entries) x.floor ≡ false = le-ltb (length r.entries) x.floor floor in
    rw test (requested r x h above floor x.request refl)
