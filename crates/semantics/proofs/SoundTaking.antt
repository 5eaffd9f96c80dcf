-- An engine stays sound when the writer takes the oldest item and handles it.
use Rattle.std.proofs.Common.{◌≡◌, inl, inr, ℕ, suc, ◌<◌, ◌≤◌, Bool, true, false, ◌||◌, nat_le, List, [], ◌∷◌, ◌++◌, map, length, Option}
use Rattle.std.proofs.Common.{Some, None, refl, sym, ap, ◌∙◌, subst, arith, slice_get}
use Rattle.std.proofs.lemmas.Option.{none-some}
use Rattle.semantics.specs.LegalHistory.{IsAmong}
use Rattle.semantics.specs.DocumentAnswer.{is_any}
use Rattle.semantics.specs.Entries.{IsAbove}
use Rattle.semantics.specs.LegalAnswer.{Submitted, Reply}
use Rattle.semantics.specs.Replica.{Replica}
use Rattle.semantics.specs.Engine.{Engine, Client, Handled, published_entries}
use Rattle.semantics.specs.WriteSteps.{after_submission, reply_to, take_oldest, take_submission}
use Rattle.semantics.specs.ReadSteps.{cell_at, cell_under}
use Rattle.semantics.proofs.ClientCells.{cell_within}
use Rattle.semantics.proofs.Beginnings.{no_shorter}
use Rattle.semantics.proofs.LastingAnswers.{IsGoodReply, good_in_longer}
use Rattle.semantics.proofs.HandledItems.{IsHandled, handled}
use Rattle.semantics.proofs.GrownEngines.{with_history, grown_by_history}
use Rattle.semantics.proofs.MovedTokens.{cell_of}
use Rattle.semantics.proofs.SoundEngines.{waiting_items, IsInTurn, open_cell, IsSoundClient, IsSound, IsLater}
use Rattle.semantics.proofs.ItemsInTurn.{among_cases, among_right, among_last, turns_right, queued_waits, waiting-taken}
use Rattle.semantics.proofs.AmongLists.{among_left}
use Rattle.semantics.proofs.SoundSeeing.{later_refl}
use Rattle.semantics.proofs.SoundGrowing.{begins_published, client_grows}

module _ (E : Engine) (x : Submitted) (queue : List Submitted) (s : IsSound E) (oldest : E.queue ≡ x ∷ queue) where
  its_cell : cell_under E x.client x.serial ≡ Some (open_cell x)
  its_cell = s.unanswered x (queued_waits E.due E.handled E.queue x (subst (IsAmong x) (sym oldest) (inl refl)))

  client_cell : (k : Client) → slice_get E.clients x.client ≡ Some k → cell_at k.cells x.serial ≡ Some (open_cell x)
  client_cell k h = sym (ap (cell_of x.serial) h) ∙ its_cell

  -- the history is no shorter than what the client had seen
  pub floor_within : x.floor ≤ length E.replica.entries
  floor_within = at_client (slice_get E.clients x.client) refl
    where
      at_client : (o : Option Client) → slice_get E.clients x.client ≡ o → x.floor ≤ length E.replica.entries
      at_client None e = absurd (none-some (open_cell x) (sym (ap (cell_of x.serial) e) ∙ its_cell))
      at_client (Some k) e =
          let l : x.floor ≤ E.published = ((s.clients x.client k e).cells x.serial (open_cell x) (client_cell k e)).floor in
          omega (arith, l, s.published)

  result : IsHandled E.replica x (after_submission E.replica x) (reply_to E.replica x)
  result = handled E.replica x s.running (s.queued x (subst (IsAmong x) (sym oldest) (inl refl))) floor_within

  -- the items of the queue, with the oldest one
  in_turn : IsInTurn (waiting_items E.due E.handled (x ∷ queue))
  in_turn = subst (λ (q : List Submitted). IsInTurn (waiting_items E.due E.handled q)) oldest s.turns

  module _ (r : Replica) (reply : Reply) (h : IsHandled E.replica x r reply) where
    abbrev as_handled : Handled
    as_handled = record { submitted = x; reply = reply }

    abbrev after : Engine
    after = with_history E r queue (E.handled ++ as_handled ∷ []) E.due E.published

    as_waiting : waiting_items E.due (E.handled ++ as_handled ∷ []) queue ≡ waiting_items E.due E.handled E.queue
    as_waiting = waiting-taken E.due E.handled queue as_handled ∙ ap (waiting_items E.due E.handled) (sym oldest)

    -- the own number and the members are as before
    as_before : (P : ℕ → List ℕ → Type 0) → P E.replica.own E.replica.members → P r.own r.members
    as_before P q = subst (λ p. P p r.members) (sym h.own) (subst (P E.replica.own) (sym h.members) q)

    clients_sound : (c : ℕ) (k : Client) → slice_get E.clients c ≡ Some k → IsSoundClient r.own r.members r.entries E.published c k
    clients_sound c k e = as_before (λ p ps. IsSoundClient p ps r.entries E.published c k)
        (client_grows E.replica.own E.replica.members r.entries E.replica.entries E.published E.published c k h.entries s.published
        (omega arith)
        (h.above c (suc (length k.cells)) (s.clients c k e).above below) (s.clients c k e))
      where
        below : x.client ≡ c → x.serial < suc (length k.cells)
        below f = (let l : x.serial ≤ length k.cells = cell_within k.cells x.serial (open_cell x)
            (client_cell k (ap (slice_get E.clients) f ∙ e)) in
            omega arith)

    later_above : (y : Submitted) → IsAmong y queue → IsAbove y.client y.serial r.entries
    later_above y m = h.above y.client y.serial (s.queued y (subst (IsAmong y) (sym oldest) (inr m)))
        (λ f. (turns_right (map (λ g. g.submitted) E.handled) (x ∷ queue)
        (turns_right (map (λ g. g.submitted) E.due) (map (λ g. g.submitted) E.handled ++ x ∷ queue) in_turn)).0 y m
        (sym f))

    all_good : (g : Handled) → IsAmong g (E.handled ++ as_handled ∷ []) → IsGoodReply r.own r.members r.entries g.submitted g.reply
    all_good g m = elim (among_last E.handled as_handled g m) [
      | inl o ↦ as_before (λ p ps. IsGoodReply p ps r.entries g.submitted g.reply)
          (good_in_longer E.replica.own E.replica.members r.entries E.replica.entries g.submitted g.reply h.entries (s.handled g o))
      | inr e ↦ subst (λ (f : Handled). IsGoodReply r.own r.members r.entries f.submitted f.reply) (sym e) h.good
    ]

    still : (g : Handled) → IsAmong g (E.due ++ E.handled) → IsAmong g (E.due ++ (E.handled ++ as_handled ∷ []))
    still g m = elim (among_cases E.due E.handled g m) [
      | inl a ↦ among_left E.due (E.handled ++ as_handled ∷ []) g a
      | inr b ↦ among_right E.due (E.handled ++ as_handled ∷ []) g (among_left E.handled (as_handled ∷ []) g b)
    ]

    taken : IsLater E after
    taken = record {
      sound = record {
        running = h.running;
        published = (let l : length E.replica.entries ≤ length r.entries = no_shorter r.entries E.replica.entries h.entries in
            omega (arith, s.published));
        readers = s.readers;
        clients = clients_sound;
        turns = subst IsInTurn (sym as_waiting) s.turns;
        unanswered = λ y m. s.unanswered y (subst (IsAmong y) as_waiting m);
        queued = later_above;
        handled = all_good;
        due = λ g m. as_before (λ p ps. IsGoodReply p ps (published_entries after) g.submitted g.reply)
            (good_in_longer E.replica.own E.replica.members (published_entries after) (published_entries E) g.submitted g.reply
            (begins_published r.entries E.replica.entries E.published E.published h.entries s.published (omega arith)) (s.due g m));
      };
      grown = grown_by_history E r queue (E.handled ++ as_handled ∷ []) E.due E.published h.own h.members h.entries (omega arith) still;
    }

-- The writer's take keeps an engine sound.
pub took : (E : Engine) → IsSound E → IsLater E (take_submission E).engine
took E s = at_queue E.queue refl
  where
    at_test : (x : Submitted) (queue : List Submitted) → E.queue ≡ x ∷ queue → (b : Bool)
        → (is_any E.due || nat_le E.batch (length E.handled)) ≡ b → IsLater E (take_oldest E (x ∷ queue)).engine
    at_test x queue e true f = rw f (later_refl E s)
    at_test x queue e false f = rw f (taken E x queue s e (after_submission E.replica x) (reply_to E.replica x) (result E x queue s e))

    at_queue : (q : List Submitted) → E.queue ≡ q → IsLater E (take_oldest E q).engine
    at_queue [] e = later_refl E s
    at_queue (x ∷ queue) e = at_test x queue e (is_any E.due || nat_le E.batch (length E.handled)) refl
