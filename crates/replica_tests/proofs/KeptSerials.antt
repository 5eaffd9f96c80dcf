-- The serials of the own entries, which no delivery and no drain changes.
use Rattle.std.proofs.Common.{◌≡◌, ◌∷◌, ℕ, ◌+◌, List, Result, Ok, Err, refl, sym, ap, ◌∙◌, subst, arith}
use Rattle.std.specs.Prelude.{OnOk, OnErr}
use Rattle.ids.specs.declared.refusal.Refusal.{Refusal}
use Rattle.operation.specs.declared.command.Delivered.{Delivered as AnAnswer}
use Rattle.semantics.specs.Stamped.{Stamped}
use Rattle.semantics.specs.Making.{Command}
use Rattle.semantics.specs.Entries.{Entry, Own, IsAbove}
use Rattle.semantics.specs.Replica.{Replica, IsRunning, commit_own}
use Rattle.semantics.specs.Delivery.{Delivered, Kept, Known, NotKept, answer_to, deliver, kept_by}
use Rattle.semantics.specs.Drain.{counted, drain_for, drain}
use Rattle.semantics.proofs.Beginnings.{above_more}
use Rattle.semantics.proofs.Drained.{drained, part_drained}
use Rattle.semantics.proofs.ReceivedItems.{above_with_peers}

-- a turn of a drain keeps them
pub above_turns : (client serial n : ℕ) (r q : Replica) → IsRunning r → q ≡ drain_for n r → IsAbove client serial r.entries
    → IsAbove client serial q.entries
above_turns client serial n r q h e above =
    let parts = (part_drained n r h).1 in
    subst (IsAbove client serial) (sym (ap (λ (p : Replica). p.entries) e ∙ parts.entries))
    (above_with_peers client serial parts.appended r.entries above)

-- and so does a whole drain
pub above_drained : (client serial : ℕ) (r q : Replica) → IsRunning r → q ≡ counted (drain r) → IsAbove client serial r.entries
    → IsAbove client serial q.entries
above_drained client serial r q h e above =
    let parts = (drained r h).1 in
    subst (IsAbove client serial) (sym (ap (λ (p : Replica). p.entries) e ∙ parts.entries))
    (above_with_peers client serial parts.appended r.entries above)

-- the next serial is above those that were, and above that of one more entry
pub next_above : (client serial : ℕ) (c : Command) (s : Stamped) (G : List Entry) → IsAbove client serial G
    → IsAbove client (serial + 1) (Own client serial c s ∷ G)
next_above client serial c s G h = (λ e. omega arith, above_more client serial (serial + 1) G (omega arith) h)

-- a delivery changes no entry
pub same_entries : (r : Replica) (s : Stamped) → (deliver r s).entries ≡ r.entries
same_entries r s = by (answer_to r s) where
  by : (d : Delivered) → (kept_by r s d).entries ≡ r.entries
  by Kept = refl
  by Known = refl
  by (NotKept why) = refl

-- nor does one that is refused
pub delivered_entries : (result : Result AnAnswer Refusal) (r m : Replica) (s : Stamped) → OnOk result (m ≡ deliver r s)
    → OnErr result (m ≡ r) → m.entries ≡ r.entries
delivered_entries (Ok d) r m s kept same = ap (λ (p : Replica). p.entries) kept ∙ same_entries r s
delivered_entries (Err why) r m s kept same = ap (λ (p : Replica). p.entries) same

-- what is appended under a serial leaves the next one above
pub own_above : (client serial : ℕ) (c : Command) (s : Stamped) (G : List Entry) (m q : Replica) → m.entries ≡ G
    → q ≡ commit_own m client serial c s → IsAbove client serial G → IsAbove client (serial + 1) q.entries
own_above client serial c s G m q same committed above =
    subst (IsAbove client (serial + 1)) (sym (ap (λ (p : Replica). p.entries) committed ∙ ap (λ E. Own client serial c s ∷ E) same))
    (next_above client serial c s G above)
