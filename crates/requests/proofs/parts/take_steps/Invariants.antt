use Rattle.std.proofs.Common.{◌≡◌, ◌++◌, List, map, length, Ok}
use Rattle.json.specs.Token.{Token}
use Rattle.serde_json.specs.Data.{Items}
use Rattle.semantics.specs.Questions.{Step}
use Rattle.document.specs.cursor.Steps.{step_of}
use Rattle.requests.specs.Expressions.{path_steps_of}
use Rattle.requests.specs.Taken.{ArePartsOf}
use Rattle.requests.proofs.parts.take_steps.Given as goal

abbrev pub decreases-loop-alloc : goal.decreases-loop-alloc
decreases-loop-alloc l = length l.reader

-- the steps that are left, once they are taken, are behind those in the list
abbrev pub invariant-loop-alloc : goal.invariant-loop-alloc
invariant-loop-alloc l = record {
  left : (ds : Items) (rest : List Token) → ArePartsOf 1 l.reader ds rest
      → (all : Items) × ArePartsOf 1 l.initial.reader all rest
      × ((ss : List Step) → path_steps_of l.edition ds ≡ Ok ss
      → path_steps_of l.edition all ≡ Ok (map step_of l.steps.items ++ ss));
}
