-- What a request leaves, whether it is taken or refused.
use Rattle.std.proofs.Common.{◌≡◌, ℕ, zero, suc, ◌<◌, Bool, true, false, nat_le, List, [], ◌∷◌, length, Option, Some, None, refl}
use Rattle.std.proofs.Common.{arith, slice_get}
use Rattle.std.proofs.lemmas.List.{length-set}
use Rattle.ids.specs.declared.refusal.Refusal.{Refusal}
use Rattle.semantics.specs.Stamped.{Stamped}
use Rattle.semantics.specs.LegalAnswer.{Request, OfPeer}
use Rattle.semantics.specs.Engine.{Engine, Client, Ticket, Denied}
use Rattle.semantics.specs.WriteSteps.{next_submission, with_cell, submit, push}
use Rattle.semantics.specs.PeerSteps.{as_received, receive_lines, submit_all}

-- what is at an index within the list
pub found : {X : Type 0} (xs : List X) (i : ℕ) → i < length xs → (x : X) × (slice_get xs i ≡ Some x)
found [] i l = absurd (omega arith)
found (x ∷ xs) zero l = (x, refl)
found (x ∷ xs) (suc i) l = found xs i (omega arith)

-- the replica and the number of clients stay
pub record Keeps (E F : Engine) : Type 0 where
  pub replica : F.replica ≡ E.replica
  pub clients : length F.clients ≡ length E.clients

same : (E : Engine) → Keeps E E
same E = record { replica = refl; clients = refl }

pub push_keeps : (E : Engine) (c : ℕ) (q : Request) → Keeps E (push E c q).engine
push_keeps E c q = at_client (slice_get E.clients c) refl
  where
    at_tests : (k : Client) (a b : Bool) → nat_le E.serials (length k.cells) ≡ a → nat_le E.capacity (length E.queue) ≡ b
        → Keeps E (submit E c k (next_submission c k q)).engine
    at_tests k true b e f = rw e (same E)
    at_tests k false true e f = rw (e, f) (same E)
    at_tests k false false e f = rw (e, f)
        (record { replica = refl; clients = length-set E.clients c (with_cell k (next_submission c k q)) })

    at_client : (o : Option Client) → slice_get E.clients c ≡ o → Keeps E (push E c q).engine
    at_client None e = rw e (same E)
    at_client (Some k) e = rw e (at_tests k (nat_le E.serials (length k.cells)) (nat_le E.capacity (length E.queue)) refl refl)

-- what is refused changes nothing
pub denied_same : (E : Engine) (c : ℕ) (q : Request) (why : Refusal) → (push E c q).reply ≡ Denied why → (push E c q).engine ≡ E
denied_same E c q why h = at_client (slice_get E.clients c) refl h
  where
    at_tests : (k : Client) (a b : Bool) → nat_le E.serials (length k.cells) ≡ a → nat_le E.capacity (length E.queue) ≡ b
        → (submit E c k (next_submission c k q)).reply ≡ Denied why → (submit E c k (next_submission c k q)).engine ≡ E
    at_tests k true b e f w = rw e refl
    at_tests k false true e f w = rw (e, f) refl
    at_tests k false false e f w = (let z = rw (e, f) at w in cc)

    at_client : (o : Option Client) → slice_get E.clients c ≡ o → (push E c q).reply ≡ Denied why → (push E c q).engine ≡ E
    at_client None e w = rw e refl
    at_client (Some k) e w = rw e
        (at_tests k (nat_le E.serials (length k.cells)) (nat_le E.capacity (length E.queue)) refl refl (rw e at w))

-- ---- operations in turn

pub submit_more : (c : ℕ) (bad : Option Refusal) (n : ℕ) (E : Engine) (s : Stamped) (ss : List Stamped) (serial : ℕ)
    → (push E c (OfPeer s)).reply ≡ Ticket serial
    → submit_all c bad n E (s ∷ ss) ≡ submit_all c bad (suc n) (push E c (OfPeer s)).engine ss
submit_more c bad n E s ss serial h = rw h refl

pub submit_stop : (c : ℕ) (bad : Option Refusal) (n : ℕ) (E : Engine) (s : Stamped) (ss : List Stamped) (why : Refusal)
    → (push E c (OfPeer s)).reply ≡ Denied why
    → submit_all c bad n E (s ∷ ss) ≡ record { engine = E; submitted = n; stopped = Some (suc n, why) }
submit_stop c bad n E s ss why h = rw h refl

-- what a client that exists receives
pub receive-there : (E : Engine) (c : ℕ) (ss : List Stamped) (bad : Option Refusal) (k : Client) → slice_get E.clients c ≡ Some k
    → receive_lines E c ss bad ≡ as_received (suc (length k.cells)) (submit_all c bad 0 E ss)
receive-there E c ss bad k e = rw e refl
