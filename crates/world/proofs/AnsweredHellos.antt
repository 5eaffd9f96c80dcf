-- What an answer to a hello leaves, replies and sends.
use Rattle.std.proofs.Common.{◌≡◌, ℕ, List, [], ◌∷◌, length, map, slice_get, Option, Some, None, refl}
use Rattle.std.proofs.Common.{subst}
use Rattle.semantics.specs.Vectors.{Vector}
use Rattle.semantics.specs.Engine.{Engine, Message, Hello, Bundle, NoMessage, SentBundle}
use Rattle.semantics.specs.ReadSteps.{see_published}
use Rattle.semantics.specs.PeerSteps.{answer_hello, answer_sent, lacked}
use Rattle.world.specs.Engines.{IsNoHello, message_of}
use Rattle.world.specs.declared.message.Message.{Message as AnyMessage}

pub answer-none : (E : Engine) (t k : ℕ) (m : Option Message) → IsNoHello m
    → (answer_hello E t k m ≡ record { engine = E; reply = NoMessage }) × (answer_sent E m ≡ [])
answer-none E t k None h = (refl, refl)
answer-none E t k (Some (Hello v)) h = absurd h
answer-none E t k (Some (Bundle ss)) h = (refl, refl)

pub answer-given : (E : Engine) (t k : ℕ) (m : Option Message) (v : Vector) → m ≡ Some (Hello v)
    → (answer_hello E t k m ≡ record { engine = see_published E t; reply = SentBundle k (length (lacked E v)) })
    × (answer_sent E m ≡ Bundle (lacked E v) ∷ [])
answer-given E t k m v e = rw e (refl, refl)

-- the same where the messages are read as a slice
module _ (E : Engine) (t : ℕ) (all slice : List AnyMessage) (at : ℕ) (same : slice ≡ all) where
  pub answered-none : IsNoHello (slice_get (map message_of slice) at)
      → (answer_hello E t (length all) (slice_get (map message_of all) at) ≡ record { engine = E; reply = NoMessage })
      × (answer_sent E (slice_get (map message_of all) at) ≡ [])
  answered-none none = answer-none E t (length all) (slice_get (map message_of all) at)
      (subst (λ xs. IsNoHello (slice_get (map message_of xs) at)) same none)

  pub answered-given : (v : Vector) → slice_get (map message_of slice) at ≡ Some (Hello v)
      → (answer_hello E t (length all) (slice_get (map message_of all) at)
      ≡ record { engine = see_published E t; reply = SentBundle (length all) (length (lacked E v)) })
      × (answer_sent E (slice_get (map message_of all) at) ≡ Bundle (lacked E v) ∷ [])
  answered-given v some = answer-given E t (length all) (slice_get (map message_of all) at) v
      (subst (λ xs. slice_get (map message_of xs) at ≡ Some (Hello v)) same some)
