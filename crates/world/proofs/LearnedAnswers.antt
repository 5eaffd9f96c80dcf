-- What a token learns if the answer to a serial is set, and if it isn't.
use Rattle.std.proofs.Common.{◌≡◌, ℕ, max, Option, Some, None, refl, sym}
use Rattle.std.proofs.lemmas.Option.{none-some}
use Rattle.std.specs.Prelude.{option_and_then}
use Rattle.semantics.specs.Engine.{Engine, Cell, Given, Unanswered, Seen}
use Rattle.semantics.specs.ReadSteps.{cell_under, learn, see, seen_by}

pub learn-unset : (E : Engine) (t c serial : ℕ) → None ≡ option_and_then (λ (cell : Cell). cell.answer) (cell_under E c serial)
    → record { engine = E; reply = Unanswered } ≡ learn E t c serial
learn-unset E t c serial = at_cell (cell_under E c serial) refl
  where
    at_cell : (found : Option Cell) → cell_under E c serial ≡ found → None ≡ option_and_then (λ (cell : Cell). cell.answer) found
        → record { engine = E; reply = Unanswered } ≡ learn E t c serial
    at_cell None e h = rw e refl
    at_cell (Some cell) e h = rw (e, ← h) refl

pub learn-set : (E : Engine) (t c serial : ℕ) (g : Given) → Some g ≡ option_and_then (λ (cell : Cell). cell.answer) (cell_under E c serial)
    → record { engine = see E t (max (seen_by E t) g.published); reply = Seen (max (seen_by E t) g.published) } ≡ learn E t c serial
learn-set E t c serial g = at_cell (cell_under E c serial) refl
  where
    at_cell : (found : Option Cell) → cell_under E c serial ≡ found → Some g ≡ option_and_then (λ (cell : Cell). cell.answer) found
        → record { engine = see E t (max (seen_by E t) g.published); reply = Seen (max (seen_by E t) g.published) } ≡ learn E t c serial
    at_cell None e h = absurd (none-some g (sym h))
    at_cell (Some cell) e h = rw (e, ← h) refl
