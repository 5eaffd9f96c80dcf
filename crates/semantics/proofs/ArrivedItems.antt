-- A settled replica that takes the next operation of a history has it then, or its history is full and the operation waits, or its
-- table lacks room for the operation's replica.
use Rattle.std.proofs.Common.{◌≡◌, inl, inr, ℕ, ◌≤◌, true, false, nat_lt, List, ◌∷◌, length, sym, ap, ◌∙◌, subst}
use Rattle.std.proofs.Common.{cond}
use Rattle.std.proofs.lemmas.Bool.{cases_Bool, le-ltb}
use Rattle.semantics.specs.Ids.{OpId}
use Rattle.semantics.specs.Operations.{Operation}
use Rattle.semantics.specs.LegalHistory.{IsLegal, has_id}
use Rattle.semantics.specs.Stamped.{Stamped, operations_of, IsLegalStamped}
use Rattle.semantics.specs.Making.{is_full}
use Rattle.semantics.specs.Entries.{Entry, applied}
use Rattle.semantics.specs.LegalAnswer.{OfPeer, Submitted}
use Rattle.semantics.specs.Replica.{Replica, operations}
use Rattle.semantics.specs.Drain.{counted, receive}
use Rattle.semantics.specs.OneWorld.{AreWithin}
use Rattle.semantics.specs.Exchange.{IsSettled}
use Rattle.semantics.specs.WriteSteps.{after_request, after_submission}
use Rattle.semantics.specs.WorldHistory.{BeginsWith}
use Rattle.semantics.proofs.AbsentIds.{has_id-among}
use Rattle.semantics.proofs.LegalFacts.{among_from}
use Rattle.semantics.proofs.Growing.{receive_grows}
use Rattle.semantics.proofs.Arriving.{HasCome, comes_in}
use Rattle.semantics.proofs.SentOperations.{applied_begins}
use Rattle.semantics.proofs.ComingHistory.{HasThose}

-- what was applied stays so
pub ids_stay : (G F : List Entry) → BeginsWith G F → (i : OpId) → has_id (applied F) i ≡ true → has_id (applied G) i ≡ true
ids_stay G F b i t = (let x = among_from (applied F) i t in has_id-among (applied G) x.0 i (applied_begins G F b x.0 x.1) x.2)

arrived : (K : List Operation) → IsLegal K → (p : ℕ) (r : Replica) (s : Stamped) (F : List Stamped) → IsSettled K p r
    → IsLegalStamped (s ∷ F) → AreWithin (operations_of (s ∷ F)) K → HasThose r F → is_full r.entries ≡ false → HasCome (receive r s) s
arrived K lk p r s F h l w there few = elim (cases_Bool (has_id (operations r) s.id)) [
  | inl t ↦ inr (inl ((receive_grows r s h.world.running).1 s.id t))
  | inr t ↦ comes_in K lk p r h.world h.end h.few s F l w there few t
]

pub item_arrived : (K : List Operation) → IsLegal K → (p : ℕ) (r : Replica) (x : Submitted) (s : Stamped) (F : List Stamped)
    → IsSettled K p r → x.floor ≤ length r.entries → x.request ≡ OfPeer s
    → IsLegalStamped (s ∷ F) → AreWithin (operations_of (s ∷ F)) K → HasThose r F → is_full r.entries ≡ false
    → HasCome (after_submission r x) s
item_arrived K lk p r x s F h floor is l w there few =
    let test : nat_lt (length r.entries) x.floor ≡ false = le-ltb (length r.entries) x.floor floor in
    let same : after_submission r x ≡ counted (receive r s) = ap (λ b. cond b r (after_request r x x.request)) test
    ∙ ap (after_request r x) is in
    subst (λ (t : Replica). HasCome t s) (sym same) (arrived K lk p r s F h l w there few)
