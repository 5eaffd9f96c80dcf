-- What was sent and received where a hello, its answer and the receipt of that were replied to.
use Rattle.std.proofs.Common.{◌≡◌, ℕ, List, [], ◌∷◌, ◌++◌, length, Option, Some, None, refl, sym, ap, ◌∙◌, slice_get}
use Rattle.std.proofs.Common.{slice_set}
use Rattle.semantics.specs.Vectors.{Vector}
use Rattle.semantics.specs.Stamped.{Stamped}
use Rattle.semantics.specs.Engine.{Engine, Hello, Bundle, SentHello, SentBundle, Received}
use Rattle.semantics.specs.PeerSteps.{published_vector, lacked, receive_message}
use Rattle.semantics.specs.World.{World, SayHello, AnswerHello, Deliver, world_step, step_by}
use Rattle.ids.proofs.LongerLists.{get-append_last}
use Rattle.semantics.proofs.SetElements.{get-set_same}
use Rattle.semantics.proofs.ReceivedBundles.{HasReceivedAll, bundle_received}

pub said_hello : (W : World) (a t h : ℕ) (v : Vector) → (world_step W (step_by a (SayHello t))).reply ≡ SentHello h v
    → (A : Engine) × (slice_get W.engines a ≡ Some A) × (v ≡ published_vector A)
    × (slice_get (world_step W (step_by a (SayHello t))).world.messages h ≡ Some (Hello v))
said_hello W a t h v r = at_engine (slice_get W.engines a) refl
  where
    at_engine : (o : Option Engine) → slice_get W.engines a ≡ o
        → (A : Engine) × (slice_get W.engines a ≡ Some A) × (v ≡ published_vector A)
        × (slice_get (world_step W (step_by a (SayHello t))).world.messages h ≡ Some (Hello v))
    at_engine None e = (let z = rw e at r in cc)
    at_engine (Some A) e =
        let reply : SentHello (length W.messages) (published_vector A) ≡ SentHello h v = rw e at r in
        let number : length W.messages ≡ h = cc in
        let is : published_vector A ≡ v = cc in
        let last : slice_get (W.messages ++ Hello (published_vector A) ∷ []) h ≡ Some (Hello v) =
        ap (slice_get (W.messages ++ Hello (published_vector A) ∷ [])) (sym number)
        ∙ get-append_last W.messages (Hello (published_vector A)) ∙ ap (λ u. Some (Hello u)) is in
        (A, e, sym is, rw e last)

pub hello_answered : (W : World) (b u h k sent : ℕ) (B : Engine) (v : Vector) → slice_get W.engines b ≡ Some B
    → slice_get W.messages h ≡ Some (Hello v) → (world_step W (step_by b (AnswerHello u h))).reply ≡ SentBundle k sent
    → slice_get (world_step W (step_by b (AnswerHello u h))).world.messages k ≡ Some (Bundle (lacked B v))
hello_answered W b u h k sent B v there m r =
    let reply : SentBundle (length W.messages) (length (lacked B v)) ≡ SentBundle k sent = rw (there, m) at r in
    let number : length W.messages ≡ k = cc in
    rw (there, m)
    (ap (slice_get (W.messages ++ Bundle (lacked B v) ∷ [])) (sym number) ∙ get-append_last W.messages (Bundle (lacked B v)))

pub bundle_delivered : (W : World) (a c k serial count : ℕ) (ss : List Stamped) → slice_get W.messages k ≡ Some (Bundle ss)
    → (world_step W (step_by a (Deliver c k))).reply ≡ Received serial count None
    → (A G : Engine) × (slice_get W.engines a ≡ Some A) × (slice_get (world_step W (step_by a (Deliver c k))).world.engines a ≡ Some G)
    × HasReceivedAll A c ss serial count G
bundle_delivered W a c k serial count ss m r = at_engine (slice_get W.engines a) refl
  where
    at_engine : (o : Option Engine) → slice_get W.engines a ≡ o
        → (A G : Engine) × (slice_get W.engines a ≡ Some A) × (slice_get (world_step W (step_by a (Deliver c k))).world.engines a ≡ Some G)
        × HasReceivedAll A c ss serial count G
    at_engine None e = (let z = rw e at r in cc)
    at_engine (Some A) e =
        let G : Engine = (receive_message A c (Some (Bundle ss))).engine in
        let reply : (receive_message A c (Some (Bundle ss))).reply ≡ Received serial count None = rw (e, m) at r in
        let set : slice_get (slice_set W.engines a G) a ≡ Some G = get-set_same W.engines a A G e in
        (A, G, e, rw (e, m) set, bundle_received A c ss serial count reply)
