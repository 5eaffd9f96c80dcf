-- The invariant of an engine, which holds at each moment of a run.
use Rattle.std.proofs.Common.{◌≡◌, ℕ, suc, ◌<◌, ◌≤◌, List, [], ◌∷◌, ◌++◌, map, length, get_or, Some, None, slice_get}
use Rattle.std.specs.Bool.{⊤}
use Rattle.semantics.specs.LegalHistory.{IsAmong}
use Rattle.semantics.specs.Entries.{Entry, first_entries, IsAbove}
use Rattle.semantics.specs.LegalAnswer.{Submitted}
use Rattle.semantics.specs.Replica.{IsRunning}
use Rattle.semantics.specs.Engine.{Engine, Client, Cell, Given, Handled, published_entries}
use Rattle.semantics.specs.ReadSteps.{cell_at, cell_under}
use Rattle.semantics.specs.WorldHistory.{HasGrown}
use Rattle.semantics.proofs.LastingAnswers.{IsGoodReply}

-- the items that wait for an answer, the oldest first: the published ones, then the handled ones, then those of the queue
abbrev pub waiting_items : List Handled → List Handled → List Submitted → List Submitted
waiting_items due handled queue = map (λ h. h.submitted) due ++ (map (λ h. h.submitted) handled ++ queue)

-- the serials of each client are in ascending order
abbrev pub IsInTurn : List Submitted → Type 0
IsInTurn [] = ⊤
IsInTurn (x ∷ items) = ((y : Submitted) → IsAmong y items → y.client ≡ x.client → x.serial < y.serial) × IsInTurn items

-- the item's cell, as long as it isn't answered
abbrev pub open_cell : Submitted → Cell
open_cell x = record { submitted = x; answer = None }

-- A cell of client c under a serial: its item is the client's, its floor is published, and its answer is legal in what is published.
pub record IsSoundCell (p : ℕ) (ps : List ℕ) (G : List Entry) (m : ℕ) (c n : ℕ) (cell : Cell) : Type 0 where
  pub client : cell.submitted.client ≡ c
  pub serial : cell.submitted.serial ≡ n
  pub floor : cell.submitted.floor ≤ m
  pub given : (g : Given) → cell.answer ≡ Some g → (g.published ≤ m) × IsGoodReply p ps (first_entries m G) cell.submitted g.reply

-- Client c: it has seen no more than what is published, its next serial is above those of the history, and its cells are sound.
pub record IsSoundClient (p : ℕ) (ps : List ℕ) (G : List Entry) (m : ℕ) (c : ℕ) (k : Client) : Type 0 where
  pub seen : k.seen ≤ m
  pub above : IsAbove c (suc (length k.cells)) G
  pub cells : (n : ℕ) (cell : Cell) → cell_at k.cells n ≡ Some cell → IsSoundCell p ps G m c n cell

-- An engine is sound.
pub record IsSound (E : Engine) : Type 0 where
  pub running : IsRunning E.replica
  pub published : E.published ≤ length E.replica.entries
  pub readers : (i : ℕ) → get_or E.readers i 0 ≤ E.published
  pub clients : (c : ℕ) (k : Client) → slice_get E.clients c ≡ Some k
      → IsSoundClient E.replica.own E.replica.members E.replica.entries E.published c k
  -- no item that waits for an answer has one yet, and they come in turn
  pub turns : IsInTurn (waiting_items E.due E.handled E.queue)
  pub unanswered : (x : Submitted) → IsAmong x (waiting_items E.due E.handled E.queue) → cell_under E x.client x.serial ≡ Some (open_cell x)
  -- the history has no serial yet that is in the queue
  pub queued : (x : Submitted) → IsAmong x E.queue → IsAbove x.client x.serial E.replica.entries
  -- replies are legal where they are to be published, and where they are
  pub handled : (h : Handled) → IsAmong h E.handled → IsGoodReply E.replica.own E.replica.members E.replica.entries h.submitted h.reply
  pub due : (h : Handled) → IsAmong h E.due → IsGoodReply E.replica.own E.replica.members (published_entries E) h.submitted h.reply

-- F is sound and E later
pub record IsLater (E F : Engine) : Type 0 where
  pub sound : IsSound F
  pub grown : HasGrown E F
