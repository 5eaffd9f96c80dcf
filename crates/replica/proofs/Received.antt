-- What a delivery leaves.
use Rattle.std.proofs.Common.{◌≡◌, ◌≢◌, ◌⊎◌, inl, inr, Result, Ok, Err, sym, ap, ◌∙◌}
use Rattle.std.specs.Prelude.{OnErr, OnOk, MatchResult}
use Rattle.ids.specs.declared.refusal.Refusal.{Refusal}
use Rattle.ids.specs.declared.refusal.Refusal.TheVariants.{NoMemory}
use Rattle.semantics.specs.Stamped.{Stamped}
use Rattle.semantics.specs.Replica.{Replica}
use Rattle.semantics.specs.Delivery as delivery
use Rattle.semantics.specs.Delivery.{answer_to, deliver, kept_by}
use Rattle.inbox.specs.operation.declared.command.Delivered.{Delivered}
use Rattle.inbox.specs.Inboxes.{delivered_of}
use Rattle.replica.specs.Handlers.{outcome_of}

pub delivered : (r t : Replica) (s : Stamped) (result : Result Delivered Refusal)
    → MatchResult result (λ d. answer_to r s ≡ delivered_of d)
    (λ why. ((why ≡ NoMemory) × (answer_to r s ≡ delivery.Kept)) ⊎ (answer_to r s ≡ delivery.NotKept why))
    → OnOk result (t ≡ deliver r s) → OnErr result (t ≡ r)
    → result ≢ Err NoMemory → (answer_to r s ≡ outcome_of result) × (t ≡ deliver r s)
delivered r t s (Ok d) a k same other = (a, k)
delivered r t s (Err why) (inl z) k same other = absurd (other (ap Err z.0))
delivered r t s (Err why) (inr a) k same other = (a, same ∙ sym (ap (kept_by r s) a))
