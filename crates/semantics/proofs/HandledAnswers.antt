-- What handling an item keeps, whether an allocation fails or not.
use Rattle.std.proofs.Common.{◌≡◌, inl, inr, ℕ, ◌<◌, ◌≤◌, Bool, true, false, nat_lt, List, [], ◌∷◌, ◌++◌, length}
use Rattle.std.proofs.Common.{Result, Ok, Err, refl, sym, ap, ◌∙◌, subst, arith}
use Rattle.std.proofs.lemmas.Bool.{ltb-true, ltb-false}
use Rattle.ids.specs.declared.refusal.Refusal.{Refusal}
use Rattle.ids.specs.declared.refusal.Refusal.TheVariants.{NoMemory, BadFloor}
use Rattle.semantics.specs.Operations.{Operation}
use Rattle.semantics.specs.Stamped.{Stamped}
use Rattle.semantics.specs.Making.{Command, make}
use Rattle.semantics.specs.Entries.{Entry, Own, Peer, first_entries, IsAbove}
use Rattle.semantics.specs.LegalAnswer.{Request, OfCommand, OfPeer, Submitted, Reply, Made, RefusedAt, KeptAt, KnownAt, LacksSerial}
use Rattle.semantics.specs.Replica.{Replica, operations, IsRunning}
use Rattle.semantics.specs.Delivery.{answer_to, deliver}
use Rattle.semantics.specs.Drain.{counted, drain_for, receive, with_peers}
use Rattle.semantics.specs.WriteSteps.{stamp, after_made, reply_made, after_request, reply_requested, after_submission, reply_to}
use Rattle.semantics.specs.WriteSteps.{reply_delivered}
use Rattle.semantics.proofs.AppliedVectors.{at-vector_of}
use Rattle.semantics.proofs.Delivered.{delivered, own_committed}
use Rattle.semantics.proofs.Drained.{part_drained}
use Rattle.semantics.proofs.HandledItems.{as_stamped}
use Rattle.semantics.proofs.OwnReplies.{own_made, own_refused, all_first, above_lacks}
use Rattle.semantics.proofs.PeerReceipts.{receipt}
use Rattle.semantics.proofs.ReceivedItems.{above_with_peers, same_own, same_members, same_entries, running_counted}
use Rattle.semantics.specs.PeerAnswers.{IsPeerAnswer, IsAnswer, LacksRefused}
use Rattle.semantics.specs.Handling.{Handler, DrainsTo, Handles, AreFor, IsAfter}

-- ---- drains

-- q is r after this many turns of a drain
pub record IsPart (r q : Replica) : Type 0 where
  pub own : q.own ≡ r.own
  pub members : q.members ≡ r.members
  pub appended : List Stamped
  pub entries : q.entries ≡ with_peers appended r.entries
  pub running : IsRunning q

pub part : (n : ℕ) (r q : Replica) → IsRunning r → q ≡ counted (drain_for n r) → IsPart r q
part n r q h e =
    let d = part_drained n r h in record {
      own = ap (λ (p : Replica). p.own) e ∙ d.1.own;
      members = ap (λ (p : Replica). p.members) e ∙ d.1.members;
      appended = d.1.appended;
      entries = ap (λ (p : Replica). p.entries) e ∙ d.1.entries;
      running = subst IsRunning (sym e) (running_counted (drain_for n r) d.0);
    }

-- a drain made some turns, whether it ended early or not
pub part_to : (b : Bool) (r q : Replica) → IsRunning r → DrainsTo r b q → IsPart r q
part_to true r q h d = part d.0 r q h d.1
part_to false r q h d = part (length r.waiting) r q h d

pub delivered_part : (n : ℕ) (r q : Replica) (s : Stamped) → IsRunning r → q ≡ counted (drain_for n (deliver r s)) → IsPart r q
delivered_part n r q s h e =
    let p = part n (deliver r s) q (delivered r s h) e in record {
      own = p.own ∙ same_own r s (answer_to r s);
      members = p.members ∙ same_members r s (answer_to r s);
      appended = p.appended;
      entries = p.entries ∙ ap (with_peers p.appended) (same_entries r s (answer_to r s));
      running = p.running;
    }

pub peers_before : (M : List Stamped) (G : List Entry) → with_peers M G ≡ with_peers M [] ++ G
peers_before [] G = refl
peers_before (s ∷ M) G = ap (λ (F : List Entry). Peer s ∷ F) (peers_before M G)

pub peers_for : (x : Submitted) (M : List Stamped) → AreFor x (with_peers M [])
peers_for x [] = tt
peers_for x (s ∷ M) = peers_for x M

-- ---- items

-- where all serials of the client are smaller, what is refused stands nowhere
lacks_refused : (x : Submitted) (y : Reply) (G : List Entry) → IsAbove x.client x.serial G → LacksRefused G x y
lacks_refused x (Made a n) G above = tt
lacks_refused x (RefusedAt e m) G above = above_lacks x.client x.serial G above
lacks_refused x (KeptAt m) G above = tt
lacks_refused x (KnownAt m) G above = tt

-- the replica as it was
unchanged : (r : Replica) (x : Submitted) (y : Reply) → IsRunning r → IsAbove x.client x.serial r.entries
    → IsAnswer r.own r.members r.entries x y → IsAfter r x y r
unchanged r x y h above a = record {
  own = refl;
  members = refl;
  more = [];
  entries = refl;
  for_it = tt;
  running = h;
  answer = (a, lacks_refused x y r.entries above);
}

-- a refusal that isn't one of the rules
refused_lacking : (r : Replica) (x : Submitted) (c : Command) → IsAbove x.client x.serial r.entries
    → LacksSerial x.client x.serial (first_entries (length r.entries) r.entries)
refused_lacking r x c above = subst (LacksSerial x.client x.serial) (sym (all_first r.entries))
    (above_lacks x.client x.serial r.entries above)

no_memory : (r : Replica) (x : Submitted) → IsAbove x.client x.serial r.entries → x.floor ≤ length r.entries
    → IsAnswer r.own r.members r.entries x (RefusedAt NoMemory (length r.entries))
no_memory r x above floor = of_request x.request refl
  where
    of_request : (q : Request) → x.request ≡ q → IsAnswer r.own r.members r.entries x (RefusedAt NoMemory (length r.entries))
    of_request (OfCommand c) is = rw is ((omega arith, inr (inl refl), refused_lacking r x c above), inl floor)
    of_request (OfPeer s) is = rw is (inr (inl (refl, floor, omega arith)))

bad_floor : (r : Replica) (x : Submitted) → IsAbove x.client x.serial r.entries → length r.entries < x.floor
    → IsAnswer r.own r.members r.entries x (RefusedAt BadFloor (length r.entries))
bad_floor r x above below = of_request x.request refl
  where
    of_request : (q : Request) → x.request ≡ q → IsAnswer r.own r.members r.entries x (RefusedAt BadFloor (length r.entries))
    of_request (OfCommand c) is = rw is ((omega arith, inr (inr (refl, below)), refused_lacking r x c above), inr refl)
    of_request (OfPeer s) is = rw is (inr (inr (refl, below, omega arith)))

-- an operation of a peer, after whose delivery a drain made this many turns
peer_part : (n : ℕ) (r q : Replica) (x : Submitted) (s : Stamped) → IsRunning r → IsAbove x.client x.serial r.entries
    → x.floor ≤ length r.entries → x.request ≡ OfPeer s
    → q ≡ counted (drain_for n (deliver r s))
    → IsAfter r x (reply_delivered (length q.entries) (answer_to r s)) q
peer_part n r q x s h above floor is e =
    let p = delivered_part n r q s h e in
    let entries : q.entries ≡ with_peers p.appended [] ++ r.entries = p.entries ∙ peers_before p.appended r.entries in
    let y : Reply = reply_delivered (length q.entries) (answer_to r s) in
    let here : IsPeerAnswer r.own r.members q.entries x s y = receipt r x s (with_peers p.appended []) q.entries entries floor
    (answer_to r s) refl in
    let later : IsAbove x.client x.serial q.entries = subst (IsAbove x.client x.serial) (sym p.entries)
    (above_with_peers x.client x.serial p.appended r.entries above) in
    let allowed : IsAnswer q.own q.members q.entries x y = rw is
    (subst (λ k. IsPeerAnswer k q.members q.entries x s y) (sym p.own)
    (subst (λ ps. IsPeerAnswer r.own ps q.entries x s y) (sym p.members) here)) in
    record {
      own = p.own;
      members = p.members;
      more = with_peers p.appended [];
      entries = entries;
      for_it = peers_for x p.appended;
      running = p.running;
      answer = (allowed, lacks_refused x y q.entries later);
    }

made : (r : Replica) (x : Submitted) (c : Command) → x.request ≡ OfCommand c → IsRunning r → IsAbove x.client x.serial r.entries
    → x.floor ≤ length r.entries
    → (m : Result Operation Refusal) → make (operations r) r.own c ≡ m → IsAfter r x (reply_made r m) (after_made r x c m)
made r x c is h above floor (Err why) e = unchanged r x (RefusedAt why (length r.entries)) h above
    (rw is (own_refused r.own r.entries x c why above e, inl floor))
made r x c is h above floor (Ok o) e = record {
  own = refl;
  members = refl;
  more = Own x.client x.serial c (stamp (operations r) o) ∷ [];
  entries = refl;
  for_it = (refl, refl, is, tt);
  running = own_committed r x.client x.serial c (stamp (operations r) o) h (at-vector_of (operations r))
      (e ∙ (λ i. Ok (as_stamped r c o h.history e i))) above;
  answer = (
    rw is (own_made r.own r.entries x c (stamp (operations r) o), floor),
    tt,
  );
}

requested : (r : Replica) (x : Submitted) → IsRunning r → IsAbove x.client x.serial r.entries → x.floor ≤ length r.entries
    → (q : Request) → x.request ≡ q → IsAfter r x (reply_requested r q) (after_request r x q)
requested r x h above floor (OfCommand c) is = made r x c is h above floor (make (operations r) r.own c) refl
requested r x h above floor (OfPeer s) is = peer_part (length (deliver r s).waiting) r (counted (receive r s)) x s h above floor is refl

-- as the rules have it
whole : (r : Replica) (x : Submitted) → IsRunning r → IsAbove x.client x.serial r.entries
    → IsAfter r x (reply_to r x) (after_submission r x)
whole r x h above = by_test (nat_lt (length r.entries) x.floor) refl
  where
    by_test : (b : Bool) → nat_lt (length r.entries) x.floor ≡ b → IsAfter r x (reply_to r x) (after_submission r x)
    by_test true t = rw t
        (unchanged r x (RefusedAt BadFloor (length r.entries)) h above (bad_floor r x above (ltb-true (length r.entries) x.floor t)))
    by_test false t = rw t (requested r x h above (ltb-false (length r.entries) x.floor t) x.request refl)

-- the same where the reply and the replica have other names
pub named : (r t u : Replica) (x : Submitted) (y z : Reply) → y ≡ z → t ≡ u → IsAfter r x z u → IsAfter r x y t
named r t u x y z reply replica a = subst (λ (q : Replica). IsAfter r x y q) (sym replica)
    (subst (λ (k : Reply). IsAfter r x k u) (sym reply) a)

pub handled : (w v : Handler) (x : Submitted) (y : Reply) → IsRunning w.replica → IsAbove x.client x.serial w.replica.entries
    → Handles w x y v → IsAfter w.replica x y v.replica
handled w v x y h above (inl k) = named w.replica v.replica (after_submission w.replica x) x y (reply_to w.replica x) k.reply k.replica
    (whole w.replica x h above)
handled w v x y h above (inr (inl k)) =
    named w.replica v.replica w.replica x y (RefusedAt NoMemory (length w.replica.entries)) k.reply (ap (λ (u : Handler). u.replica) k.same)
    (unchanged w.replica x (RefusedAt NoMemory (length w.replica.entries)) h above (no_memory w.replica x above k.floor))
handled w v x y h above (inr (inr k)) =
    named w.replica v.replica v.replica x y (reply_delivered (length v.replica.entries) (answer_to w.replica k.stamped)) k.reply refl
    (peer_part k.replica.0 w.replica v.replica x k.stamped h above k.floor k.request k.replica.1)
