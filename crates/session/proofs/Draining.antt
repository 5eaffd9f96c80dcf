-- A drain that is under way.
use Rattle.std.proofs.Common.{◌≡◌, ◌≤◌, ◌<◌, ℕ, zero, suc, ◌+◌, min, Bool, true, false, cond, List, [], ◌∷◌, length, filter, Option, Some}
use Rattle.std.proofs.Common.{None}
use Rattle.std.proofs.Common.{sym, ap, ◌∙◌, arith}
use Rattle.ids.specs.declared.refusal.Refusal.{Refusal}
use Rattle.semantics.specs.Stamped.{Stamped}
use Rattle.semantics.specs.Joining.{check_fault}
use Rattle.semantics.specs.Making.{is_full}
use Rattle.semantics.specs.Entries.{stamped_entries}
use Rattle.semantics.specs.Replica.{Replica, IsRunning, operations}
use Rattle.semantics.specs.Drain.{at_ready, counted, drain, drain_for, first_ready, taken, taken_with}
use Rattle.semantics.proofs.HandledAnswers.{part}
use Rattle.semantics.proofs.Taken.{taken_fewer}
use Rattle.semantics.proofs.Waiting.{ready_first}
use Rattle.replica.specs.Replicas.{next_of}
use Rattle.replica.proofs.Turns.{count_stays, counted_for, ended, next_some, turn}

-- q is r after some turns of a drain
pub record IsDraining (r q : Replica) : Type 0 where
  pub turns : ℕ
  pub after : q ≡ counted (drain_for turns r)

pub begun : (r : Replica) → r.dropped ≤ 18446744073709551615 → IsDraining r r
begun r few = record { turns = 0; after = λ i. record r { dropped = all i } }
  where
    all : r.dropped ≡ min r.dropped 18446744073709551615
    all = omega (arith, few)

-- a filter leaves no more
filter_few : {X : Type 0} (test : X → Bool) (xs : List X) → length (filter test xs) ≤ length xs
filter_few test [] = omega arith
filter_few test (x ∷ xs) = by (filter_few test xs) (test x)
  where
    by : length (filter test xs) ≤ length xs → (b : Bool) → length (cond b (x ∷ filter test xs) (filter test xs)) ≤ suc (length xs)
    by few true = omega (arith, few)
    by few false = omega (arith, few)

-- what leaves waits no more
taken_few : (r : Replica) (s : Stamped) → length (taken r s).waiting ≤ length r.waiting
taken_few r s = by (check_fault r.members (stamped_entries r.entries) s)
  where
    by : (f : Option Refusal) → length (taken_with r s f).waiting ≤ length r.waiting
    by None = filter_few _ r.waiting
    by (Some why) = filter_few _ r.waiting

-- after a drain no more operations wait than before
waits_few : (n : ℕ) (r : Replica) → length (drain_for n r).waiting ≤ length r.waiting
waits_few zero r = omega arith
waits_few (suc n) r = at_full (λ m. waits_few n m) (is_full r.entries)
  where
    at_first : ((m : Replica) → length (drain_for n m).waiting ≤ length m.waiting) → (w : Option Stamped)
        → length (at_ready w r (λ s. drain_for n (taken r s))).waiting ≤ length r.waiting
    at_first rest None = omega arith
    at_first rest (Some s) = let one = taken_few r s in let more = rest (taken r s) in omega (arith, one, more)

    at_full : ((m : Replica) → length (drain_for n m).waiting ≤ length m.waiting) → (b : Bool)
        → length (cond b r (at_ready (first_ready (operations r) r.waiting) r (λ s. drain_for n (taken r s)))).waiting
        ≤ length r.waiting
    at_full rest true = omega arith
    at_full rest false = at_first rest (first_ready (operations r) r.waiting)

module _ {r q : Replica} (w : IsDraining r q) where
  pub running : IsRunning r → IsRunning q
  running k = (part w.turns r q k w.after).running

  -- what is unlawful is dropped
  pub dropping_on : {t : Replica} {E : Type 0} → (n : ℕ) × (t ≡ counted (drain_for n q)) × E → IsDraining r t
  dropping_on d = record { turns = w.turns + d.0; after = d.1 ∙ counted_for w.turns d.0 r q w.after }

  -- one more is appended
  pub appending_on : {t : Replica} (s : Stamped) → next_of q ≡ Some s → check_fault q.members (stamped_entries q.entries) s ≡ None
      → t ≡ drain_for 1 q → IsDraining r t
  appending_on s next faultless e = record {
    turns = w.turns + 1;
    after = e ∙ count_stays (drain_for w.turns r) q s w.after next faultless ∙ counted_for w.turns 1 r q w.after;
  }

  -- and waits no more
  pub fewer : {t : Replica} (s : Stamped) → IsRunning r → next_of q ≡ Some s → t ≡ drain_for 1 q → length t.waiting < length q.waiting
  fewer s k next e =
      let run = running k in
      let among = (ready_first (operations q) q.waiting run.rising s (next_some q s next).1).0 in
      let one = taken_fewer q s run among in
      let here = ap (λ (x : Replica). length x.waiting) (e ∙ turn q s next) in
      omega (arith, one, here)

  pub no_more : {t : Replica} {E : Type 0} → (n : ℕ) × (t ≡ counted (drain_for n q)) × E → length t.waiting ≤ length q.waiting
  no_more d = let here = ap (λ (x : Replica). length x.waiting) d.1 in let few = waits_few d.0 q in omega (arith, here, few)

  pub whole : IsRunning r → next_of q ≡ None → q ≡ counted (drain r)
  whole k none = w.after ∙ ap counted (sym (ended w.turns r k (ap next_of (sym w.after) ∙ none)))
