-- The turns of a drain, where what is dropped is counted up to the greatest number.
use Rattle.std.proofs.Common.{◌≡◌, ◌∷◌, ◌⊎◌, inl, inr, ℕ, zero, suc, min, ◌+◌, ◌-◌, ◌<◌, ◌≤◌, Bool, true, false, cond, length, Option, Some}
use Rattle.std.proofs.Common.{None, refl, sym, ap, ◌∙◌, arith, true≢false}
use Rattle.std.proofs.lemmas.Bool.{cases_lt}
use Rattle.ids.specs.declared.refusal.Refusal.{Refusal}
use Rattle.semantics.specs.Stamped.{Stamped}
use Rattle.semantics.specs.Joining.{check_fault}
use Rattle.semantics.specs.Making.{is_full}
use Rattle.semantics.specs.Entries.{Peer, stamped_entries}
use Rattle.semantics.specs.Replica.{Replica, operations, IsRunning}
use Rattle.semantics.specs.Drain.{counted, first_ready, without_waiting, taken_with, taken, at_ready, drain_for, drain, IsDrained}
use Rattle.semantics.proofs.EarlyEnd.{goes_on}
use Rattle.semantics.proofs.Waiting.{ready_first}
use Rattle.semantics.proofs.Drained.{drained}
use Rattle.replica.specs.Replicas.{next_of}

-- what follows is the first ready one of a history with room
pub next_some : (r : Replica) (s : Stamped) → next_of r ≡ Some s
    → (is_full r.entries ≡ false) × (first_ready (operations r) r.waiting ≡ Some s)
next_some r s e = by (is_full r.entries) refl e where
  by : (b : Bool) → is_full r.entries ≡ b → cond b None (first_ready (operations r) r.waiting) ≡ Some s
      → (is_full r.entries ≡ false) × (first_ready (operations r) r.waiting ≡ Some s)
  by true full is = cc
  by false room is = (room, is)

-- one turn takes it
pub turn : (r : Replica) (s : Stamped) → next_of r ≡ Some s → drain_for 1 r ≡ taken r s
turn r s e =
    let parts = next_some r s e in
    ap (λ b. cond b r (at_ready (first_ready (operations r) r.waiting) r (taken r))) parts.0
    ∙ ap (λ w. at_ready w r (taken r)) parts.1

-- where nothing follows a turn changes nothing
pub stuck : (m : ℕ) (r : Replica) → next_of r ≡ None → drain_for m r ≡ r
stuck zero r e = refl
stuck (suc m) r e = by (is_full r.entries) e where
  at_first : (w : Option Stamped) → w ≡ None → at_ready w r (λ s. drain_for m (taken r s)) ≡ r
  at_first None is = refl
  at_first (Some s) is = cc

  by : (b : Bool) → cond b None (first_ready (operations r) r.waiting) ≡ None
      → cond b r (at_ready (first_ready (operations r) r.waiting) r (λ s. drain_for m (taken r s))) ≡ r
  by true is = refl
  by false is = at_first (first_ready (operations r) r.waiting) is

-- after a drain nothing follows
none_follows : (r : Replica) → IsRunning r → IsDrained r → next_of r ≡ None
none_follows r h (inl full) = ap (λ b. cond b None (first_ready (operations r) r.waiting)) full
none_follows r h (inr none) = by (is_full r.entries) (at_first (first_ready (operations r) r.waiting) refl) where
  at_first : (w : Option Stamped) → first_ready (operations r) r.waiting ≡ w → first_ready (operations r) r.waiting ≡ None
  at_first None is = is
  at_first (Some s) is = let got = ready_first (operations r) r.waiting h.rising s is in absurd (true≢false (sym got.1 ∙ none s got.0))

  by : (b : Bool) → first_ready (operations r) r.waiting ≡ None → cond b None (first_ready (operations r) r.waiting) ≡ None
  by true is = refl
  by false is = is

-- as many turns as operations wait are enough
pub ended_by_count : (n : ℕ) (r : Replica) → IsRunning r → length r.waiting ≤ n → drain r ≡ drain_for n r
ended_by_count n r h le =
    let all = drained r h in
    sym (ap (λ k. drain_for k r) (let e : n ≡ length r.waiting + (n - length r.waiting) = omega arith in e)
    ∙ goes_on (length r.waiting) (n - length r.waiting) r
    ∙ stuck (n - length r.waiting) (drain r) (none_follows (drain r) all.0 all.2))

-- once nothing follows, the drain has ended
pub ended : (n : ℕ) (r : Replica) → IsRunning r → next_of (drain_for n r) ≡ None → drain r ≡ drain_for n r
ended n r h none = by (cases_lt (length r.waiting) n) where
  long : ℕ
  long = length r.waiting

  by : (long < n) ⊎ (n ≤ long) → drain r ≡ drain_for n r
  by (inl lt) = ended_by_count n r h (omega arith)
  by (inr le) =
      ap (λ k. drain_for k r) (let e : long ≡ n + (long - n) = omega arith in e) ∙ goes_on n (long - n) r
      ∙ stuck (long - n) (drain_for n r) none

-- ---- the count

-- counts that are alike up to the greatest stay so
suc_alike : (m x y : ℕ) → min x m ≡ min y m → min (suc x) m ≡ min (suc y) m
suc_alike m x y e = omega (arith, e)

-- the replica, where this many were dropped
abbrev pub with_dropped : Replica → ℕ → Replica
with_dropped r n = record r { dropped = n }

-- drains that began with counts which saturate alike end with counts that do
alike_for : (n : ℕ) (r : Replica) (x y : ℕ) → min x 18446744073709551615 ≡ min y 18446744073709551615
    → counted (drain_for n (with_dropped r x)) ≡ counted (drain_for n (with_dropped r y))
alike_for zero r x y e = ap (with_dropped r) e
alike_for (suc n) r x y e = at_full (λ q u v f. alike_for n q u v f) (is_full r.entries)
  where
    at_fault : ((q : Replica) (u v : ℕ) → min u 18446744073709551615 ≡ min v 18446744073709551615
        → counted (drain_for n (with_dropped q u)) ≡ counted (drain_for n (with_dropped q v)))
        → (s : Stamped) (f : Option Refusal)
        → counted (drain_for n (taken_with (with_dropped r x) s f)) ≡ counted (drain_for n (taken_with (with_dropped r y) s f))
    at_fault rest s None = rest (record r { entries = Peer s ∷ r.entries; waiting = without_waiting s.id r.waiting }) x y e
    at_fault rest s (Some f) = rest (record r { waiting = without_waiting s.id r.waiting }) (suc x) (suc y)
        (suc_alike 18446744073709551615 x y e)

    at_first : ((q : Replica) (u v : ℕ) → min u 18446744073709551615 ≡ min v 18446744073709551615
        → counted (drain_for n (with_dropped q u)) ≡ counted (drain_for n (with_dropped q v)))
        → (w : Option Stamped)
        → counted (at_ready w (with_dropped r x) (λ s. drain_for n (taken (with_dropped r x) s)))
        ≡ counted (at_ready w (with_dropped r y) (λ s. drain_for n (taken (with_dropped r y) s)))
    at_first rest None = ap (with_dropped r) e
    at_first rest (Some s) = at_fault rest s (check_fault r.members (stamped_entries r.entries) s)

    at_full : ((q : Replica) (u v : ℕ) → min u 18446744073709551615 ≡ min v 18446744073709551615
        → counted (drain_for n (with_dropped q u)) ≡ counted (drain_for n (with_dropped q v)))
        → (b : Bool)
        → counted
        (cond b (with_dropped r x)
        (at_ready (first_ready (operations r) r.waiting) (with_dropped r x) (λ s. drain_for n (taken (with_dropped r x) s))))
        ≡ counted
        (cond b (with_dropped r y)
        (at_ready (first_ready (operations r) r.waiting) (with_dropped r y) (λ s. drain_for n (taken (with_dropped r y) s))))
    at_full rest true = ap (with_dropped r) e
    at_full rest false = at_first rest (first_ready (operations r) r.waiting)

min_twice : (x m : ℕ) → min (min x m) m ≡ min x m
min_twice x m = omega arith

-- turns that follow a count go on as if nothing had been counted
pub counted_for : (n m : ℕ) (r q : Replica) → q ≡ counted (drain_for n r) → counted (drain_for m q) ≡ counted (drain_for (n + m) r)
counted_for n m r q e =
    ap (λ p. counted (drain_for m p)) e
    ∙ alike_for m (drain_for n r) (min (drain_for n r).dropped 18446744073709551615) (drain_for n r).dropped
    (min_twice (drain_for n r).dropped 18446744073709551615)
    ∙ ap counted (sym (goes_on n m r))

-- a replica stays one, however many were dropped
pub counted_running : (r : Replica) (n : ℕ) → IsRunning r → IsRunning (with_dropped r n)
counted_running r n h = record { history = h.history; alone = h.alone; foreign = h.foreign; unapplied = h.unapplied; rising = h.rising }

-- one turn at an unlawful one drops and counts it
pub dropping : (r : Replica) (s : Stamped) (f : Refusal) → next_of r ≡ Some s → check_fault r.members (stamped_entries r.entries) s ≡ Some f
    → counted (drain_for 1 r) ≡ record r { waiting = without_waiting s.id r.waiting; dropped = min (suc r.dropped) 18446744073709551615 }
dropping r s f e fault = ap counted (turn r s e ∙ ap (taken_with r s) fault)

-- one turn at a lawful one appends it
pub appending : (r : Replica) (s : Stamped) → next_of r ≡ Some s → check_fault r.members (stamped_entries r.entries) s ≡ None
    → drain_for 1 r ≡ record r { entries = Peer s ∷ r.entries; waiting = without_waiting s.id r.waiting }
appending r s e fault = turn r s e ∙ ap (taken_with r s) fault

-- and changes no count
pub count_stays : (p q : Replica) (s : Stamped) → q ≡ counted p → next_of q ≡ Some s
    → check_fault q.members (stamped_entries q.entries) s ≡ None
    → drain_for 1 q ≡ counted (drain_for 1 q)
count_stays p q s e next fault =
    let is = appending q s next fault in
    let same : q.dropped ≡ min q.dropped 18446744073709551615 = ap (λ (r : Replica). r.dropped) e
    ∙ sym (min_twice p.dropped 18446744073709551615) ∙ ap (λ (r : Replica). min r.dropped 18446744073709551615) (sym e) in
    is ∙ ap (with_dropped (record q { entries = Peer s ∷ q.entries; waiting = without_waiting s.id q.waiting })) same ∙ ap counted (sym is)
