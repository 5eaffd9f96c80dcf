-- An engine stays sound when it answers a hello, and when a client receives what a peer sent.
use Rattle.std.proofs.Common.{◌≡◌, ℕ, suc, List, [], ◌∷◌, Option, Some, None, refl, slice_get}
use Rattle.ids.specs.declared.refusal.Refusal.{Refusal}
use Rattle.semantics.specs.Stamped.{Stamped}
use Rattle.semantics.specs.LegalAnswer.{OfPeer}
use Rattle.semantics.specs.Engine.{Engine, Client, Message, Hello, Bundle}
use Rattle.semantics.specs.WriteSteps.{push}
use Rattle.semantics.specs.PeerSteps.{answer_hello, refusal_in, unless_refused, submit_all, receive_lines, receive_message}
use Rattle.semantics.proofs.SoundEngines.{IsSound, IsLater}
use Rattle.semantics.proofs.SoundSeeing.{later_refl, later_trans, seen_all}
use Rattle.semantics.proofs.SoundSubmitting.{pushed}

-- An answer to a hello keeps an engine sound.
pub hello_answered : (E : Engine) (t k : ℕ) (m : Option Message) → IsSound E → IsLater E (answer_hello E t k m).engine
hello_answered E t k None s = later_refl E s
hello_answered E t k (Some (Bundle ss)) s = later_refl E s
hello_answered E t k (Some (Hello v)) s = seen_all E t s

pub submitted_all : (c : ℕ) (bad : Option Refusal) (n : ℕ) (E : Engine) (ss : List Stamped) → IsSound E
    → IsLater E (submit_all c bad n E ss).engine
submitted_all c bad n E [] s = later_refl E s
submitted_all c bad n E (x ∷ ss) s =
    let one = pushed E c (OfPeer x) s in
    at_refusal (later_trans E (push E c (OfPeer x)).engine (submit_all c bad (suc n) (push E c (OfPeer x)).engine ss).engine one
    (submitted_all c bad (suc n) (push E c (OfPeer x)).engine ss one.sound))
    (refusal_in (push E c (OfPeer x)).reply)
  where
    at_refusal : IsLater E (submit_all c bad (suc n) (push E c (OfPeer x)).engine ss).engine → (o : Option Refusal)
        → IsLater E (unless_refused E n o (submit_all c bad (suc n) (push E c (OfPeer x)).engine ss)).engine
    at_refusal rest None = rest
    at_refusal rest (Some why) = later_refl E s

-- Lines that a client receives keep an engine sound.
pub lines_received : (E : Engine) (c : ℕ) (ss : List Stamped) (bad : Option Refusal) → IsSound E
    → IsLater E (receive_lines E c ss bad).engine
lines_received E c ss bad s = at_client (slice_get E.clients c) refl
  where
    at_client : (o : Option Client) → slice_get E.clients c ≡ o → IsLater E (receive_lines E c ss bad).engine
    at_client None e = rw e (later_refl E s)
    at_client (Some k) e = rw e (submitted_all c bad 0 E ss s)

-- A message that a client receives keeps an engine sound.
pub message_received : (E : Engine) (c : ℕ) (m : Option Message) → IsSound E → IsLater E (receive_message E c m).engine
message_received E c None s = later_refl E s
message_received E c (Some (Hello v)) s = later_refl E s
message_received E c (Some (Bundle ss)) s = lines_received E c ss None s
