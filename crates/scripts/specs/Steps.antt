-- A line of a script, as a step.
use Rattle.std.specs.Prelude.{ℕ, List, [], codes, Result, Ok, Err, if◌then◌else◌}
use Rattle.std.specs.Str.{bytes_eq}
use Rattle.ids.specs.Configurations.{Configuration}
use Rattle.ids.specs.declared.refusal.Refusal.{Refusal}
use Rattle.ids.specs.declared.refusal.Refusal.TheVariants.{BadLine}
use Rattle.semantics.specs.World.{WorldStep, Push, Ask, Lines, step_by}
use Rattle.serde_json.specs.Data.{Data, Items, no_items, item}
use Rattle.world.specs.wire.Bundles.{Readable, readable}
use Rattle.world.specs.wire.Forms.{and_then, json_form, number_form, phrase_form, text_form}
use Rattle.requests.specs.declared.edition.Edition.{Edition}
use Rattle.scripts.specs.NumberedSteps.{numbered_step_of}
use Rattle.scripts.specs.Exists.{if_there}
use Rattle.requests.specs.Commands.{command_form}
use Rattle.requests.specs.Questions.{question_form}

-- an engine, a client and a command
abbrev pub push_of : Edition → Items → Result WorldStep Refusal
push_of edition (item engine (item client (item command no_items))) =
    and_then
    (λ e. and_then (λ c. and_then (λ k. Ok (step_by e (Push c k))) (command_form edition command)) (number_form client))
    (number_form engine)
push_of edition _ = Err BadLine

-- an engine, a token and a question
abbrev pub ask_of : Edition → Items → Result WorldStep Refusal
ask_of edition (item engine (item token (item question no_items))) =
    and_then
    (λ e. and_then
    (λ t. and_then
    (λ q. Ok (step_by e (Ask t q))) (question_form edition question)) (number_form token)) (number_form engine)
ask_of edition _ = Err BadLine

-- a client receives what can be read of the lines
abbrev pub lines_step : ℕ → ℕ → Readable → WorldStep
lines_step e c r = step_by e (Lines c r.operations r.stopped)

-- an engine, a client and a text of any lines, the first of which is relative to the empty vector
abbrev pub line_of : Items → Result WorldStep Refusal
line_of (item engine (item client (item text no_items))) =
    and_then
    (λ e. and_then
    (λ c. and_then
    (λ bytes. Ok (lines_step e c (readable [] bytes))) (text_form text)) (number_form client))
    (number_form engine)
line_of _ = Err BadLine

-- by its word
abbrev pub any_step_of : Edition → List ℕ × Items → Result WorldStep Refusal
any_step_of edition p = if bytes_eq p.0 (codes "push") then push_of edition p.1
    else (if bytes_eq p.0 (codes "ask") then ask_of edition p.1
    else (if bytes_eq p.0 (codes "line") then line_of p.1 else numbered_step_of p))

-- a list of a word and its parts
abbrev pub step_form : Edition → Data → Result WorldStep Refusal
step_form edition d = and_then (any_step_of edition) (phrase_form d)

-- the step on a line of a script of these engines
abbrev pub step_line : Edition → List Configuration → List ℕ → Result WorldStep Refusal
step_line edition engines text = and_then (if_there engines) (and_then (step_form edition) (json_form text))
