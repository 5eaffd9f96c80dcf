-- An engine stays sound when one client moves.
use Rattle.std.proofs.Common.{◌≡◌, ◌⊎◌, inl, inr, ℕ, List, Some, sym, ap, ◌∙◌, subst, slice_get, slice_set}
use Rattle.std.proofs.lemmas.Bool.{cases_eq}
use Rattle.semantics.specs.LegalHistory.{IsAmong}
use Rattle.semantics.specs.Entries.{IsAbove}
use Rattle.semantics.specs.LegalAnswer.{Submitted}
use Rattle.semantics.specs.Engine.{Engine, Client, Cell, Handled, published_entries}
use Rattle.semantics.specs.ReadSteps.{cell_at, cell_under}
use Rattle.semantics.proofs.SetElements.{get-set_same, get-set_other, get-set_cases}
use Rattle.semantics.proofs.LastingAnswers.{IsGoodReply}
use Rattle.semantics.proofs.MovedTokens.{with_client, cell_of}
use Rattle.semantics.proofs.SoundEngines.{waiting_items, IsInTurn, open_cell, IsSoundClient, IsSound}

-- the cell of an item after a client moved that keeps it
pub cell_moved : (E : Engine) (queue : List Submitted) (due : List Handled) (c : ℕ) (k j : Client) → slice_get E.clients c ≡ Some k
    → (d n : ℕ) (cell : Cell) → cell_under E d n ≡ Some cell → (d ≡ c → cell_at k.cells n ≡ Some cell → cell_at j.cells n ≡ Some cell)
    → cell_under (with_client E queue due c j) d n ≡ Some cell
cell_moved E queue due c k j h d n cell w keeps = at_client (cases_eq d c)
  where
    at_client : ((d ≡ c) ⊎ (d ≡ c → ⊥)) → cell_under (with_client E queue due c j) d n ≡ Some cell
    at_client (inl e) =
        let was : slice_get E.clients d ≡ Some k = ap (slice_get E.clients) e ∙ h in
        let is : slice_get (slice_set E.clients c j) d ≡ Some j = ap (slice_get (slice_set E.clients c j)) e
        ∙ get-set_same E.clients c k j h in
        ap (cell_of n) is ∙ keeps e (sym (ap (cell_of n) was) ∙ w)
    at_client (inr q) = ap (cell_of n) (get-set_other E.clients c d j q) ∙ w

-- The moved client is sound, and so is all that stands in the queue and is due.
pub sound_by_client : (E : Engine) (queue : List Submitted) (due : List Handled) (c : ℕ) (k j : Client) → IsSound E
    → slice_get E.clients c ≡ Some k
    → IsSoundClient E.replica.own E.replica.members E.replica.entries E.published c j
    → IsInTurn (waiting_items due E.handled queue)
    → ((x : Submitted) → IsAmong x (waiting_items due E.handled queue)
    → cell_under (with_client E queue due c j) x.client x.serial ≡ Some (open_cell x))
    → ((x : Submitted) → IsAmong x queue → IsAbove x.client x.serial E.replica.entries)
    → ((h : Handled) → IsAmong h due → IsGoodReply E.replica.own E.replica.members (published_entries E) h.submitted h.reply)
    → IsSound (with_client E queue due c j)
sound_by_client E queue due c k j s h client turns unanswered queued good = record {
  running = s.running;
  published = s.published;
  readers = s.readers;
  clients = λ d l w. elim (get-set_cases E.clients c d k j l h w) [
    | inl e ↦ sound_there d l e.0 e.1
    | inr o ↦ s.clients d l o
  ];
  turns = turns;
  unanswered = unanswered;
  queued = queued;
  handled = s.handled;
  due = good;
}
  where
    sound_there : (d : ℕ) (l : Client) → d ≡ c → l ≡ j → IsSoundClient E.replica.own E.replica.members E.replica.entries E.published d l
    sound_there d l e f =
        subst (λ i. IsSoundClient E.replica.own E.replica.members E.replica.entries E.published i l) (sym e)
        (subst (λ q. IsSoundClient E.replica.own E.replica.members E.replica.entries E.published c q) (sym f) client)
