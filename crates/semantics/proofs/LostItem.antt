-- An engine that lost an item: its client has the cell, and the item is nowhere. Not all that the client submitted is there.
use Rattle.std.proofs.Common.{◌≡◌, inl, List, [], ◌∷◌, None, refl, sym, ◌∙◌, subst}
use Rattle.std.specs.Prelude.{codes}
use Rattle.std.proofs.lemmas.List.{append-nil}
use Rattle.std.proofs.lemmas.Option.{none-some}
use Rattle.semantics.specs.LegalHistory.{IsAmong}
use Rattle.semantics.specs.Questions.{Get}
use Rattle.semantics.specs.LegalAnswer.{OfCommand}
use Rattle.semantics.specs.Engine.{Engine, Cell}
use Rattle.semantics.specs.WriteSteps.{push}
use Rattle.semantics.specs.World.{opened_engine}
use Rattle.semantics.specs.WorldHistory.{cells_of, HasAllSubmitted}
use Rattle.semantics.proofs.ExampleWords.{whole, assign, engine}

abbrev submitted : Engine
submitted = (push (opened_engine (engine 1)) 0 (OfCommand (assign (Get (codes "a") ∷ []) (whole 1)))).engine

-- as it would be after a take that drops what it took
abbrev lost : Engine
lost = record submitted { queue = [] }

abbrev the_cell : Cell
the_cell = record {
  submitted = record { client = 0; serial = 1; request = OfCommand (assign (Get (codes "a") ∷ []) (whole 1)); floor = 0 };
  answer = None;
}

is_there : cells_of lost 0 ≡ the_cell ∷ []
is_there = refl

not_all : HasAllSubmitted lost 0 → ⊥
not_all h =
    let answered : h.answered ≡ the_cell ∷ [] = sym (append-nil h.answered) ∙ sym h.cells in
    let g = h.given the_cell (subst (λ (cells : List Cell). IsAmong the_cell cells) (sym answered) (inl refl)) in
    none-some g.0 g.1
