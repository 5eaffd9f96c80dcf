-- An engine that said hello and received the answer has each operation of it in the end, or its history is full,
-- and the operation waits or was refused for that, or its table has no room for a replica of the answer.
use Rattle.std.proofs.Common.{◌≡◌, inl, inr, ℕ, suc, ◌+◌, ◌≤◌, List, [], ◌∷◌, ◌++◌, reverse, length, None, Some, sym, subst, arith}
use Rattle.std.proofs.Common.{slice_get}
use Rattle.semantics.specs.Operations.{Operation}
use Rattle.semantics.specs.LegalHistory.{IsAmong}
use Rattle.semantics.specs.NamedIds.{greatest_counter}
use Rattle.semantics.specs.Vectors.{Vector, at}
use Rattle.semantics.specs.Stamped.{Stamped, IsLegalStamped}
use Rattle.semantics.specs.Entries.{stamped_entries, applied, missing}
use Rattle.semantics.specs.Replica.{operations}
use Rattle.semantics.specs.OneWorld.{AreWithin}
use Rattle.semantics.specs.Engine.{Engine, published_entries, Hello, Bundle, SentHello, SentBundle, Received}
use Rattle.semantics.specs.PeerSteps.{published_vector, lacked}
use Rattle.semantics.specs.World.{World, WorldStep, SayHello, AnswerHello, Deliver, world_step, world_after, step_by}
use Rattle.semantics.specs.WorldHistory.{HasGrown}
use Rattle.semantics.specs.WorldExchange.{AreWithoutLines, IsHandledBelow}
use Rattle.semantics.proofs.NamedOperations.{vector_counts, vector_cases}
use Rattle.semantics.proofs.AppliedVectors.{at-vector_of}
use Rattle.semantics.proofs.LawfulAlone.{length_stamped}
use Rattle.semantics.proofs.Beginnings.{no_shorter, begins_first}
use Rattle.semantics.proofs.FullHistories.{IsShort}
use Rattle.semantics.proofs.SoundWorlds.{IsSoundWorld, sound_after, grown_after, after_more}
use Rattle.semantics.proofs.KeptMessages.{message_kept_after}
use Rattle.semantics.proofs.SentOperations.{applied_begins, published_within}
use Rattle.semantics.proofs.EnginesOfOneWorld.{one_world_after}
use Rattle.semantics.proofs.OpenedWorlds.{IsWorldOf}
use Rattle.semantics.proofs.EnginesAgree.{published_legal, published_of_world}
use Rattle.semantics.proofs.ComingHistory.{AllAre}
use Rattle.semantics.proofs.ComingItems.{HasArrived, coming_wider}
use Rattle.semantics.proofs.ReceivedBundles.{HasReceivedAll}
use Rattle.semantics.proofs.ExchangedMessages.{said_hello, hello_answered, bundle_delivered}
use Rattle.semantics.proofs.StartedReceipts.{receipt_started}
use Rattle.semantics.proofs.HandledReceipts.{came_through}

-- what an engine has published names no more than it has applied later
named_later : (A G : Engine) → HasGrown A G → (q : ℕ) → at (published_vector A) q ≤ greatest_counter (operations G.replica) q
named_later A G g q =
    let named : at (published_vector A) q
    ≡ greatest_counter (applied (published_entries A)) q = at-vector_of (applied (published_entries A)) q in
    elim (vector_cases (applied (published_entries A)) q) [
      | inl z ↦ omega (arith, named, z)
      | inr x ↦ (let there : IsAmong x.0 (operations G.replica) = applied_begins G.replica.entries A.replica.entries g.entries x.0
          (published_within A x.0 x.1) in
          let counts : x.0.id.counter ≤ greatest_counter (operations G.replica) q = vector_counts (operations G.replica) x.0 there q x.2 in
          omega (arith, named, counts, x.3))
    ]

published_short : (B : Engine) → IsShort B.replica → length (stamped_entries (published_entries B)) ≤ 1048576
published_short B h =
    let n = length_stamped (published_entries B) in
    let l = no_shorter B.replica.entries (published_entries B) (begins_first B.published B.replica.entries) in
    omega (arith, n, l, h)

-- ---- from the receipt on

-- in W engine a receives what v doesn't cover of what B had published
pub received_through : (K : List Operation) (W : World) (after : List WorldStep) → IsSoundWorld W → IsWorldOf K W
    → (a c k serial count : ℕ) (v : Vector) (B : Engine) → AreWithoutLines (step_by a (Deliver c k) ∷ after)
    → IsLegalStamped (stamped_entries (published_entries B)) → length (stamped_entries (published_entries B)) ≤ 1048576
    → AreWithin (applied (published_entries B)) K
    → ((E : Engine) → slice_get W.engines a ≡ Some E → (q : ℕ) → at v q ≤ greatest_counter (operations E.replica) q)
    → slice_get W.messages k ≡ Some (Bundle (lacked B v)) → (world_step W (step_by a (Deliver c k))).reply ≡ Received serial count None
    → (A : Engine) → slice_get (world_after W (step_by a (Deliver c k) ∷ after)).engines a ≡ Some A → IsHandledBelow A c (serial + count)
    → AllAre (HasArrived (stamped_entries (published_entries B)) c serial (serial + count) A) (stamped_entries (published_entries B))
received_through K W after sound is a c k serial count v B known legal short within named bundle receipt A e handled =
    let F : List Stamped = stamped_entries (published_entries B) in
    let got = bundle_delivered W a c k serial count (reverse (missing v F)) bundle receipt in
    let E : Engine = got.0 in
    let G : Engine = got.1 in
    let r : HasReceivedAll E c (reverse (missing v F)) serial count G = got.4 in
    let next = one_world_after K W (step_by a (Deliver c k) ∷ []) sound first_known is in
    let first : ℕ = suc (length r.client.cells) in
    let many : ℕ = length (reverse (missing v F)) in
    let started = receipt_started K is.legal E G (sound a E got.2) (is.engines a E got.2) v F legal short within c serial count r
    (named E got.2) in
    let coming = coming_wider c first (first + many) (operations E.replica) F K next.0 G next.1 started in
    came_through c first many serial count (operations E.replica) F r.first r.all next.0
    (world_step W (step_by a (Deliver c k))).world after
    (sound_after W (step_by a (Deliver c k) ∷ []) sound) (λ s m. known s (inr m)) next.2 a G got.3 coming A e handled
  where
    first_known : AreWithoutLines (step_by a (Deliver c k) ∷ [])
    first_known s (inl m) = known s (inl m)
    first_known s (inr m) = absurd m

-- ---- from the hello on

-- in W engine a says hello
pub exchanged_through : (K : List Operation) (W : World) (between later after : List WorldStep) → IsSoundWorld W → IsWorldOf K W
    → (a b c t h u k sent serial count : ℕ) (v : Vector) (B : Engine)
    → AreWithoutLines (step_by a (SayHello t) ∷ between) → AreWithoutLines (step_by b (AnswerHello u h) ∷ later)
    → AreWithoutLines (step_by a (Deliver c k) ∷ after)
    → (world_step W (step_by a (SayHello t))).reply ≡ SentHello h v
    → slice_get (world_after W (step_by a (SayHello t) ∷ between)).engines b ≡ Some B
    → (world_step (world_after W (step_by a (SayHello t) ∷ between)) (step_by b (AnswerHello u h))).reply ≡ SentBundle k sent
    → (world_step (world_after (world_after W (step_by a (SayHello t) ∷ between)) (step_by b (AnswerHello u h) ∷ later))
    (step_by a (Deliver c k))).reply
    ≡ Received serial count None
    → (A : Engine)
    → slice_get
    (world_after (world_after (world_after W (step_by a (SayHello t) ∷ between)) (step_by b (AnswerHello u h) ∷ later))
    (step_by a (Deliver c k) ∷ after)).engines a
    ≡ Some A
    → IsHandledBelow A c (serial + count)
    → AllAre (HasArrived (stamped_entries (published_entries B)) c serial (serial + count) A) (stamped_entries (published_entries B))
exchanged_through K W between later after sound is a b c t h u k sent serial count v B known_between known_later known_after hello there
    answer receipt A e handled =
    let asked : World = world_after W (step_by a (SayHello t) ∷ between) in
    let arrived : World = world_after asked (step_by b (AnswerHello u h) ∷ later) in
    let said = said_hello W a t h v hello in
    let bundle = hello_answered asked b u h k sent B v there
    (message_kept_after (world_step W (step_by a (SayHello t))).world between h (Hello v) said.3) answer in
    let first = one_world_after K W (step_by a (SayHello t) ∷ between) sound known_between is in
    let sound_asked = sound_after W (step_by a (SayHello t) ∷ between) sound in
    let second = one_world_after first.0 asked (step_by b (AnswerHello u h) ∷ later) sound_asked known_later first.2 in
    let published = first.2.engines b B there in
    received_through second.0 arrived after
    (sound_after asked (step_by b (AnswerHello u h) ∷ later) sound_asked) second.2 a c k serial count v B known_after
    (published_legal first.0 B published) (published_short B published.short)
    (λ x m. second.1 x (published_of_world first.0 B published x m))
    (λ E at_receipt q. subst (λ (x : Vector). at x q ≤ greatest_counter (operations E.replica) q) (sym said.2)
    (named_later said.0 E (grown said.0 said.1 E at_receipt) q))
    (message_kept_after (world_step asked (step_by b (AnswerHello u h))).world later k (Bundle (lacked B v)) bundle) receipt A e
    handled
  where
    grown : (D : Engine) → slice_get W.engines a ≡ Some D → (E : Engine)
        → slice_get (world_after (world_after W (step_by a (SayHello t) ∷ between)) (step_by b (AnswerHello u h) ∷ later)).engines a
        ≡ Some E
        → HasGrown D E
    grown D before E at_receipt = grown_after W (step_by a (SayHello t) ∷ between ++ step_by b (AnswerHello u h) ∷ later) sound a D E before
        (subst (λ (X : World). slice_get X.engines a ≡ Some E)
        (sym (after_more W (step_by a (SayHello t) ∷ between) (step_by b (AnswerHello u h) ∷ later))) at_receipt)
