-- What an answer to a delivery says of the operation and of the history, and that a history has what a legal answer names.
use Rattle.std.proofs.Common.{◌≡◌, inl, inr, ℕ, ◌≤◌, Bool, true, false, cond, ◌||◌, ◌==◌, nat_lt, List, [], ◌∷◌, ◌++◌, length, Option, Some}
use Rattle.std.proofs.Common.{None, refl, sym, ap, ◌∙◌, true≢false, eqb-true}
use Rattle.std.proofs.lemmas.Bool.{or_right}
use Rattle.ids.specs.declared.refusal.Refusal.{Refusal}
use Rattle.ids.specs.declared.refusal.Refusal.TheVariants.{HistoryFull, InboxFull, OwnName}
use Rattle.semantics.specs.Ids.{OpId, is_same_id}
use Rattle.semantics.specs.LegalHistory.{has_id}
use Rattle.semantics.specs.Stamped.{Stamped}
use Rattle.semantics.specs.Faults.{alone_fault, is_ready}
use Rattle.semantics.specs.Making.{Command, is_full}
use Rattle.semantics.specs.Entries.{Entry, Own, applied, first_entries, stamped_entries, stamped_in}
use Rattle.semantics.specs.Joining.{check_fault}
use Rattle.semantics.specs.LegalAnswer.{Request, OfCommand, OfPeer, Submitted, Reply, Made, RefusedAt, KeptAt, KnownAt, IsLegalAnswer}
use Rattle.semantics.specs.Replica.{Replica, operations}
use Rattle.semantics.specs.Delivery.{Delivered, Kept, Known, NotKept, is_waiting, kept_unless, room_answer, answer_after, answer_to}
use Rattle.semantics.specs.WorldHistory.{BeginsWith}
use Rattle.semantics.proofs.Beginnings.{first_begins_first}
use Rattle.semantics.proofs.Replies.{entry_below}
use Rattle.semantics.specs.PeerAnswers.{WasAnswered, IsPeerAnswer, IsAnswer, IsTrueOf, IsWithin}

same_cause : (e f : Refusal) → NotKept f ≡ NotKept e → f ≡ e
same_cause e f is = cc

module _ (r : Replica) (s : Stamped) (e : Refusal) where
  abbrev Told : Type 0
  Told = IsTrueOf r.own r.members r.entries s e

  -- behind a test
  by_test : (t : Bool) (P : Type 0) (x y : Delivered) → (t ≡ true → x ≡ NotKept e → P) → (t ≡ false → y ≡ NotKept e → P)
      → cond t x y ≡ NotKept e → P
  by_test true P x y f g is = f refl is
  by_test false P x y f g is = g refl is

  of_fault : (o : Option Refusal) → check_fault r.members (stamped_entries r.entries) s ≡ o → kept_unless o ≡ NotKept e → Told
  of_fault None f is = absurd (no is)
    where
      no : Kept ≡ NotKept e → ⊥
      no k = cc
  of_fault (Some x) f is = inr (inr (inr (inr (f ∙ ap Some (same_cause e x is)))))

  full_inbox : NotKept InboxFull ≡ NotKept e → Told
  full_inbox is = inr (inr (inr (inl (sym (same_cause e InboxFull is)))))

  no_kept : Kept ≡ NotKept e → Told
  no_kept k = absurd (let z : ⊥ = cc in z)

  of_room : room_answer r s ≡ NotKept e → Told
  of_room is =
      by_test (is_ready (operations r) s) Told _ _
      (λ t. by_test (nat_lt 4096 (length r.waiting)) Told (NotKept InboxFull) _ (λ u. full_inbox)
      (λ u. of_fault (check_fault r.members (stamped_entries r.entries) s) refl))
      (λ t. by_test (nat_lt 4095 (length r.waiting)) Told (NotKept InboxFull) Kept (λ u. full_inbox) (λ u. no_kept))
      is

  of_known : Known ≡ NotKept e → Told
  of_known k = absurd (let z : ⊥ = cc in z)

  left_false : (a b : Bool) → (a || b) ≡ false → a ≡ false
  left_false false b h = refl
  left_false true b h = h

  of_tests : (o : Option Refusal) → alone_fault s ≡ o → answer_after r s o ≡ NotKept e → Told
  of_tests (Some f) a is = inl (a ∙ ap Some (same_cause e f is))
  of_tests None a is =
      by_test (has_id (operations r) s.id || is_waiting r.waiting s.id) Told Known _ (λ t. of_known)
      (λ t. by_test (s.id.replica == r.own) Told (NotKept OwnName) _
      (λ u q. inr
      (inl (
        sym (same_cause e OwnName q),
        eqb-true s.id.replica r.own u,
        left_false (has_id (operations r) s.id)
            (is_waiting r.waiting s.id) t,
      )))
      (λ u. by_test (is_full r.entries) Told (NotKept HistoryFull) (room_answer r s)
      (λ v q. inr (inr (inl (sym (same_cause e HistoryFull q), v)))) (λ v. of_room)))
      is

  pub told : answer_to r s ≡ NotKept e → Told
  told = of_tests (alone_fault s) refl

-- a refusal is true of the operation and the first k entries
pub refused_truly : (p : ℕ) (ps : List ℕ) (G : List Entry) (s : Stamped) (floor m : ℕ) (e : Refusal)
    → WasAnswered p ps G s floor m (NotKept e)
    → (k : ℕ) × (floor ≤ k) × (k ≤ m) × IsTrueOf p ps (first_entries k G) s e
refused_truly p ps G s floor m e a = (
  a.k,
  a.from,
  a.to,
  told
      (record { own = p; members = ps; entries = first_entries a.k G; waiting = a.waiting; dropped = 0 }) s e a.answer,
)

-- ---- what was kept was new

kept_new : (r : Replica) (s : Stamped) → answer_to r s ≡ Kept → has_id (operations r) s.id ≡ false
kept_new r s is = of_tests (alone_fault s) is
  where
    at_known : (a b : Bool) (y : Delivered) → cond (a || b) Known y ≡ Kept → a ≡ false
    at_known false b y k = refl
    at_known true b y k = absurd (let z : ⊥ = cc in z)

    of_tests : (o : Option Refusal) → answer_after r s o ≡ Kept → has_id (operations r) s.id ≡ false
    of_tests (Some f) k = absurd (let z : ⊥ = cc in z)
    of_tests None k = at_known (has_id (operations r) s.id) (is_waiting r.waiting s.id) _ k

has_longer : (more F : List Entry) (a : OpId) → has_id (applied F) a ≡ true → has_id (applied (more ++ F)) a ≡ true
has_longer [] F a h = h
has_longer (e ∷ more) F a h = or_right (is_same_id (stamped_in e).id a) (has_id (applied (more ++ F)) a) (has_longer more F a h)

lacks_shorter : (G F : List Entry) (a : OpId) → BeginsWith G F → has_id (applied G) a ≡ false → has_id (applied F) a ≡ false
lacks_shorter G F a b h = by (has_id (applied F) a) refl
  where
    by : (t : Bool) → has_id (applied F) a ≡ t → has_id (applied F) a ≡ false
    by false e = e
    by true e = absurd (true≢false (sym (has_longer b.0 F a e) ∙ ap (λ (K : List Entry). has_id (applied K) a) (sym b.1) ∙ h))

-- no entry before the floor has the id of what was kept
pub kept_as_new : (p : ℕ) (ps : List ℕ) (G : List Entry) (s : Stamped) (floor m : ℕ) → WasAnswered p ps G s floor m Kept
    → has_id (applied (first_entries floor G)) s.id ≡ false
kept_as_new p ps G s floor m a =
    lacks_shorter (first_entries a.k G) (first_entries floor G) s.id (first_begins_first floor a.k G a.from)
    (kept_new (record { own = p; members = ps; entries = first_entries a.k G; waiting = a.waiting; dropped = 0 }) s a.answer)

-- ---- what a legal answer names is there

command_within : (p : ℕ) (G : List Entry) (x : Submitted) (c : Command) (y : Reply) → IsLegalAnswer p G x c y → IsWithin G y
command_within p G x c (Made a n) h = entry_below n G (Own x.client x.serial c h.0) h.1
command_within p G x c (RefusedAt e m) h = h.0
command_within p G x c (KeptAt m) h = absurd h
command_within p G x c (KnownAt m) h = absurd h

peer_within : (p : ℕ) (ps : List ℕ) (G : List Entry) (x : Submitted) (s : Stamped) (y : Reply) → IsPeerAnswer p ps G x s y → IsWithin G y
peer_within p ps G x s (Made a n) h = absurd h
peer_within p ps G x s (KeptAt m) h = h.within
peer_within p ps G x s (KnownAt m) h = h.within
peer_within p ps G x s (RefusedAt e m) (inl h) = h.within
peer_within p ps G x s (RefusedAt e m) (inr (inl h)) = h.2
peer_within p ps G x s (RefusedAt e m) (inr (inr h)) = h.2

pub answer_within : (p : ℕ) (ps : List ℕ) (G : List Entry) (x : Submitted) (y : Reply) → IsAnswer p ps G x y → IsWithin G y
answer_within p ps G x y = of_request x.request refl
  where
    of_request : (q : Request) → x.request ≡ q → IsAnswer p ps G x y → IsWithin G y
    of_request (OfCommand c) is = rw is (λ h. command_within p G x c y h.0)
    of_request (OfPeer s) is = rw is (peer_within p ps G x s y)
