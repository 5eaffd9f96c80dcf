-- In a run without lines of any origin an exchange of messages is complete.
use Rattle.std.proofs.Common.{◌≡◌, ◌⊎◌, inl, inr, ℕ, true, false, List, ◌∷◌, ◌++◌, None, Some, sym, ap, ◌∙◌, subst, true≢false, slice_get}
use Rattle.std.proofs.lemmas.Bool.{false_from_ne_true}
use Rattle.ids.specs.Configurations.{Configuration}
use Rattle.semantics.specs.Ids.{OpId}
use Rattle.semantics.specs.LegalHistory.{IsAmong, has_id}
use Rattle.semantics.specs.Stamped.{Stamped}
use Rattle.semantics.specs.Entries.{Entry, stamped_entries}
use Rattle.semantics.specs.Exchange.{LacksRoomFor}
use Rattle.semantics.specs.Replica.{Replica, operations, IsRunning}
use Rattle.semantics.specs.Delivery.{is_waiting}
use Rattle.semantics.specs.Engine.{Engine, published_entries, SentBundle, Received}
use Rattle.semantics.specs.World.{World, WorldStep, SayHello, AnswerHello, Deliver, opened, world_step, world_after, step_by}
use Rattle.semantics.specs.WorldHistory.{IsEngineAfter}
use Rattle.semantics.specs.WorldExchange.{HaveOwnNumbers, AreWithoutLines, IsExchange, IsHandledBelow, IsAppliedUnlessFull}
use Rattle.semantics.proofs.Arriving.{waiting_one}
use Rattle.semantics.proofs.ItemsInTurn.{among_right}
use Rattle.semantics.proofs.SoundWorlds.{sound_opened, sound_after, sound_engine, after_more}
use Rattle.semantics.proofs.EnginesOfOneWorld.{one_world_after}
use Rattle.semantics.proofs.OpenedWorlds.{opened_world}
use Rattle.semantics.proofs.ComingHistory.{AllAre}
use Rattle.semantics.proofs.ComingItems.{HasArrived}
use Rattle.semantics.proofs.AmongLists.{among_left}
use Rattle.semantics.proofs.CompleteMessages.{exchanged_through}

-- what was applied doesn't wait
none_waits : (r : Replica) → IsRunning r → (i : OpId) → has_id (operations r) i ≡ true → is_waiting r.waiting i ≡ false
none_waits r h i t = false_from_ne_true (is_waiting r.waiting i) (λ e.
    let x = waiting_one r.waiting i e in
    true≢false (sym (ap (has_id (operations r)) x.2 ∙ t) ∙ h.unapplied x.0 x.1))

front_known : (xs ys : List WorldStep) → AreWithoutLines (xs ++ ys) → AreWithoutLines xs
front_known xs ys h s m = h s (among_left xs ys s m)

rest_known : (xs ys : List WorldStep) → AreWithoutLines (xs ++ ys) → AreWithoutLines ys
rest_known xs ys h s m = h s (among_right xs ys s m)

module _ (cs : List Configuration) (steps : List WorldStep) (a b c first end : ℕ) (published : List Entry)
    (x : IsExchange cs steps a b c first end published) where
  -- the steps to the answer, from there to the receipt, and from there on
  abbrev asking : List WorldStep
  asking = step_by a (SayHello x.t) ∷ x.between

  abbrev answering : List WorldStep
  answering = step_by b (AnswerHello x.u x.h) ∷ x.later

  abbrev receiving : List WorldStep
  receiving = step_by a (Deliver c x.k) ∷ x.after

  abbrev start : World
  start = world_after (opened cs) x.before

  to_answer : world_after (opened cs) (x.before ++ asking) ≡ world_after start asking
  to_answer = after_more (opened cs) x.before asking

  to_receipt : world_after (opened cs) (x.before ++ asking ++ answering) ≡ world_after (world_after start asking) answering
  to_receipt = after_more (opened cs) (x.before ++ asking) answering ∙ ap (λ W. world_after W answering) to_answer

  to_end : world_after (opened cs) steps ≡ world_after (world_after (world_after start asking) answering) receiving
  to_end = ap (world_after (opened cs)) x.all ∙ after_more (opened cs) (x.before ++ asking ++ answering) receiving
      ∙ ap (λ W. world_after W receiving) to_receipt

  exchanged : HaveOwnNumbers cs → AreWithoutLines steps → (A : Engine) → IsEngineAfter cs steps a A → IsHandledBelow A c end
      → AllAre (HasArrived (stamped_entries published) c first end A) (stamped_entries published)
  exchanged own known A e handled =
      let all : AreWithoutLines (x.before ++ asking ++ answering ++ receiving) = subst AreWithoutLines x.all known in
      let to_third = front_known (x.before ++ asking ++ answering) receiving all in
      let to_second = front_known (x.before ++ asking) answering to_third in
      let world = one_world_after _ (opened cs) x.before (sound_opened cs) (front_known x.before asking to_second) (opened_world cs own) in
      let through = exchanged_through world.0 start x.between x.later x.after
      (sound_after (opened cs) x.before (sound_opened cs)) world.2 a b c x.t x.h x.u x.k x.sent first x.count x.vector x.answerer
      (rest_known x.before asking to_second) (rest_known (x.before ++ asking) answering to_third)
      (rest_known (x.before ++ asking ++ answering) receiving all) x.hello
      (subst (λ (W : World). slice_get W.engines b ≡ Some x.answerer) to_answer x.there)
      (subst (λ (W : World). (world_step W (step_by b (AnswerHello x.u x.h))).reply ≡ SentBundle x.k x.sent) to_answer x.answer)
      (subst (λ (W : World). (world_step W (step_by a (Deliver c x.k))).reply ≡ Received first x.count None) to_receipt x.receipt)
      A (subst (λ (W : World). slice_get W.engines a ≡ Some A) to_end e) (subst (IsHandledBelow A c) x.last handled) in
      subst (λ (G : List Entry). AllAre (HasArrived (stamped_entries G) c first end A) (stamped_entries G)) x.had
      (subst (λ n. AllAre (HasArrived (stamped_entries (published_entries x.answerer)) c first n A)
      (stamped_entries (published_entries x.answerer)))
      (sym x.last) through)

pub messages_complete : (cs : List Configuration) (steps : List WorldStep) → HaveOwnNumbers cs → AreWithoutLines steps
    → (a b c first end : ℕ) (published : List Entry) (A : Engine) → IsExchange cs steps a b c first end published
    → IsEngineAfter cs steps a A → IsHandledBelow A c end
    → (s : Stamped) → IsAmong s (stamped_entries published)
    → IsAppliedUnlessFull A c first end s ⊎ LacksRoomFor A.replica (stamped_entries published)
messages_complete cs steps own known a b c first end published A x e handled s m =
    elim (exchanged cs steps a b c first end published x own known A e handled s m) [
      | inl t ↦ inl (inl (t, none_waits A.replica (sound_engine cs steps a A e).running s.id t))
      | inr (inl f) ↦ inl (inr f)
      | inr (inr k) ↦ inr k
    ]
