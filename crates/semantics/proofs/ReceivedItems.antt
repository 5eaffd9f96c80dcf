-- A delivery with its drain extends the entry history of a replica.
use Rattle.std.proofs.Common.{◌≡◌, ℕ, ◌≤◌, List, [], ◌∷◌, length, refl, sym, ap, ◌∙◌, subst, arith}
use Rattle.semantics.specs.Stamped.{Stamped}
use Rattle.semantics.specs.Entries.{Entry, Peer, IsAbove}
use Rattle.semantics.specs.Replica.{Replica, IsRunning}
use Rattle.semantics.specs.Delivery.{Delivered, Kept, Known, NotKept, answer_to, kept_by, deliver}
use Rattle.semantics.specs.Drain.{counted, receive, with_peers, Drains}
use Rattle.semantics.specs.WriteSteps.{reply_delivered}
use Rattle.semantics.specs.WorldHistory.{BeginsWith, IsNotBelow}
use Rattle.semantics.proofs.Delivered.{delivered}
use Rattle.semantics.proofs.Drained.{drained}
use Rattle.semantics.proofs.Beginnings.{no_shorter}

-- the replica after a delivery with its drain, and the reply to it
pub record IsReceived (r : Replica) (s : Stamped) : Type 0 where
  pub own : (counted (receive r s)).own ≡ r.own
  pub members : (counted (receive r s)).members ≡ r.members
  pub entries : BeginsWith (counted (receive r s)).entries r.entries
  pub running : IsRunning (counted (receive r s))
  pub floor : (n : ℕ) → n ≤ length r.entries → IsNotBelow n (reply_delivered (length (receive r s).entries) (answer_to r s))
  -- it has no serial that wasn't there before
  pub above : (client serial : ℕ) → IsAbove client serial r.entries → IsAbove client serial (counted (receive r s)).entries

-- ---- a delivery alone

pub same_own : (r : Replica) (s : Stamped) (a : Delivered) → (kept_by r s a).own ≡ r.own
same_own r s Kept = refl
same_own r s Known = refl
same_own r s (NotKept why) = refl

pub same_members : (r : Replica) (s : Stamped) (a : Delivered) → (kept_by r s a).members ≡ r.members
same_members r s Kept = refl
same_members r s Known = refl
same_members r s (NotKept why) = refl

pub same_entries : (r : Replica) (s : Stamped) (a : Delivered) → (kept_by r s a).entries ≡ r.entries
same_entries r s Kept = refl
same_entries r s Known = refl
same_entries r s (NotKept why) = refl

-- ---- what a drain appends

pub begins_with_peers : (M : List Stamped) (G : List Entry) → BeginsWith (with_peers M G) G
begins_with_peers [] G = ([], refl)
begins_with_peers (s ∷ M) G = (let rest = begins_with_peers M G in (Peer s ∷ rest.0, ap (λ (F : List Entry). Peer s ∷ F) rest.1))

-- operations of peers take no serial
pub above_with_peers : (client serial : ℕ) (M : List Stamped) (G : List Entry) → IsAbove client serial G
    → IsAbove client serial (with_peers M G)
above_with_peers client serial [] G a = a
above_with_peers client serial (s ∷ M) G a = above_with_peers client serial M G a

pub running_counted : (r : Replica) → IsRunning r → IsRunning (counted r)
running_counted r h = record { history = h.history; alone = h.alone; foreign = h.foreign; unapplied = h.unapplied; rising = h.rising }

-- ---- the reply

not_below : (n m : ℕ) (d : Delivered) → n ≤ m → IsNotBelow n (reply_delivered m d)
not_below n m Kept l = l
not_below n m Known l = l
not_below n m (NotKept why) l = l

-- ---- both

pub received : (r : Replica) (s : Stamped) → IsRunning r → IsReceived r s
received r s h = record {
  own = all.1.own ∙ same_own r s (answer_to r s);
  members = all.1.members ∙ same_members r s (answer_to r s);
  entries = begins;
  running = running_counted (receive r s) all.0;
  floor = λ n l. not_below n (length (receive r s).entries) (answer_to r s)
      (let k : length r.entries ≤ length (receive r s).entries = no_shorter (receive r s).entries r.entries begins in omega (arith, l));
  above = λ client serial a. subst (IsAbove client serial) (sym appended) (above_with_peers client serial all.1.appended r.entries a);
}
  where
    all : IsRunning (receive r s) × Drains (deliver r s) (receive r s)
    all = let d = drained (deliver r s) (delivered r s h) in (d.0, d.1)

    appended : (receive r s).entries ≡ with_peers all.1.appended r.entries
    appended = all.1.entries ∙ ap (with_peers all.1.appended) (same_entries r s (answer_to r s))

    begins : BeginsWith (receive r s).entries r.entries
    begins = let b = begins_with_peers all.1.appended r.entries in (b.0, appended ∙ b.1)
