-- What a list of a word, two numbers and a command means as a step.
use Rattle.std.proofs.Common.{◌≡◌, ℕ, List, [], IsUtf8, Ok, ap, ◌∙◌, arith}
use Rattle.std.specs.Prelude.{codes}
use Rattle.json.specs.Lex.{tokens}
use Rattle.semantics.specs.Making.{Command}
use Rattle.semantics.specs.World.{Push, WorldStep, step_by}
use Rattle.serde_json.specs.Data.{Data, array, item, no_items, number, string, unsigned}
use Rattle.world.specs.wire.Forms.{and_then, json_form}
use Rattle.requests.specs.declared.edition.Edition.{Edition}
use Rattle.requests.specs.Commands.{command_form}
use Rattle.requests.specs.Taken.{IsTakenAs}
use Rattle.requests.proofs.TakenParts.{line_of}
use Rattle.scripts.specs.Steps.{step_form}

pub pushes : (edition : Edition) (word : List ℕ) (engine client : ℕ) (d : Data) (command : Command) → word ≡ codes "push"
    → command_form edition d ≡ Ok command
    → step_form edition (array (item (string word) (item (number (unsigned engine)) (item (number (unsigned client)) (item d no_items)))))
    ≡ Ok (step_by engine (Push client command))
pushes edition word engine client d command e is =
    let parts = item (number (unsigned engine)) (item (number (unsigned client)) (item d no_items)) in
    ap (λ w. step_form edition (array (item (string w) parts))) e ∙ rw is

-- a line whose tokens are a step and no more
pub line_is_step : (edition : Edition) (text : List ℕ) (step : WorldStep) → IsUtf8 text
    → IsTakenAs 4 (step_form edition) (tokens text) step []
    → and_then (step_form edition) (json_form text) ≡ Ok step
line_is_step edition text step utf8 taken =
    ap (and_then (step_form edition)) (line_of 4 text taken.0 (omega arith) utf8 taken.1) ∙ taken.2
