-- What a replica answers to a delivery is a legal answer once more was appended.
use Rattle.std.proofs.Common.{◌≡◌, inl, ℕ, ◌≤◌, List, ◌++◌, length, Option, Some, None, refl, ap, ◌∙◌, arith}
use Rattle.ids.specs.declared.refusal.Refusal.{Refusal}
use Rattle.semantics.specs.Stamped.{Stamped}
use Rattle.semantics.specs.Entries.{Entry, first_entries}
use Rattle.semantics.specs.LegalAnswer.{Submitted}
use Rattle.semantics.specs.Replica.{Replica}
use Rattle.semantics.specs.Delivery.{Delivered, Kept, Known, NotKept, answer_after, answer_to}
use Rattle.semantics.specs.WriteSteps.{reply_delivered}
use Rattle.semantics.specs.PeerAnswers.{answer_with, WasAnswered, IsPeerAnswer}
use Rattle.semantics.proofs.Beginnings.{first_of_longer, no_shorter}
use Rattle.semantics.proofs.OwnReplies.{all_first}

same_answer : (r : Replica) (s : Stamped) (f : Option Refusal)
    → answer_after (record { own = r.own; members = r.members; entries = r.entries; waiting = r.waiting; dropped = 0 }) s f
    ≡ answer_after r s f
same_answer r s (Some f) = refl
same_answer r s None = refl

answered : (r : Replica) (s : Stamped) (floor : ℕ) (more G : List Entry) → G ≡ more ++ r.entries → floor ≤ length r.entries
    → (d : Delivered) → answer_to r s ≡ d → WasAnswered r.own r.members G s floor (length G) d
answered r s floor more G e l d is = record {
  k = length r.entries;
  from = l;
  to = no_shorter G r.entries (more, e);
  within = omega arith;
  waiting = r.waiting;
  answer = ap (λ (F : List Entry). answer_with r.own r.members F r.waiting s)
      (ap (first_entries (length r.entries)) e ∙ first_of_longer (length r.entries) more r.entries (omega arith) ∙ all_first r.entries)
      ∙ same_answer r s _ ∙ is;
}

pub receipt : (r : Replica) (x : Submitted) (s : Stamped) (more G : List Entry) → G ≡ more ++ r.entries → x.floor ≤ length r.entries
    → (d : Delivered) → answer_to r s ≡ d → IsPeerAnswer r.own r.members G x s (reply_delivered (length G) d)
receipt r x s more G e l Kept is = answered r s x.floor more G e l Kept is
receipt r x s more G e l Known is = answered r s x.floor more G e l Known is
receipt r x s more G e l (NotKept why) is = inl (answered r s x.floor more G e l (NotKept why) is)
