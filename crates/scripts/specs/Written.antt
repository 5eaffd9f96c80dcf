-- How the steps that hold a command or a question are written, as JSON.
use Rattle.std.specs.Prelude.{ℕ, [], ◌∷◌, codes}
use Rattle.semantics.specs.Making.{Command}
use Rattle.semantics.specs.LegalAnswer.{Asked}
use Rattle.serde_json.specs.Data.{Data}
use Rattle.world.specs.wire.Operations.{phrase}
use Rattle.world.specs.wire.Vectors.{count}
use Rattle.requests.specs.Written.{command_json, question_json}

-- a step by which a client of an engine submits a command
abbrev pub push_json : ℕ → ℕ → Command → Data
push_json engine client command = phrase (codes "push") (count engine ∷ count client ∷ command_json command ∷ [])

-- a step by which a token of an engine asks
abbrev pub ask_json : ℕ → ℕ → Asked → Data
ask_json engine token question = phrase (codes "ask") (count engine ∷ count token ∷ question_json question ∷ [])
