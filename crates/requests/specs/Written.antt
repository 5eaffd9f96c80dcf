-- How a command and a question are written as JSON, and which commands can be.
use Rattle.std.specs.Prelude.{◌≤◌, ◌<◌, ◌^◌, ⊤, IsTrue, List, [], ◌∷◌, codes, length, map}
use Rattle.semantics.specs.Limits.{most_key_bytes}
use Rattle.semantics.specs.Operations.{Mutation, Assign, Insert, Delete}
use Rattle.semantics.specs.Making.{Command}
use Rattle.semantics.specs.Questions.{Step, Get, Idx, ById, Values, Keys, Items, Conflicts, AppliedVector}
use Rattle.semantics.specs.LegalAnswer.{Asked, OfDocument, Missing}
use Rattle.serde_json.specs.Data.{Data, string, array}
use Rattle.serde_json.specs.View.{items_of}
use Rattle.document.specs.value.Forms.{json_of}
use Rattle.wire.specs.Operations.{id_json, phrase}
use Rattle.wire.specs.Sent.{IsReplicaNumber, IsSentId, IsSentMutation, is_counter}
use Rattle.wire.specs.Vectors.{count, vector_json}

-- the key of a field, or the index or the id of an item
abbrev pub path_step_json : Step → Data
path_step_json (Get key) = string key
path_step_json (Idx i) = count i
path_step_json (ById a) = id_json a

-- each step in its turn
abbrev pub expression_json : List Step → Data
expression_json steps = array (items_of (map path_step_json steps))

-- what is done at an expression
abbrev pub mutation_at_json : List Step → Mutation → Data
mutation_at_json e (Assign v) = phrase (codes "assign") (expression_json e ∷ json_of v ∷ [])
mutation_at_json e (Insert v) = phrase (codes "insert") (expression_json e ∷ json_of v ∷ [])
mutation_at_json e Delete = phrase (codes "delete") (expression_json e ∷ [])

-- a command
abbrev pub command_json : Command → Data
command_json c = mutation_at_json c.expression c.mutation

-- a question
abbrev pub question_json : Asked → Data
question_json (OfDocument (Values e)) = phrase (codes "values") (expression_json e ∷ [])
question_json (OfDocument (Keys e)) = phrase (codes "keys") (expression_json e ∷ [])
question_json (OfDocument (Items e)) = phrase (codes "items") (expression_json e ∷ [])
question_json (OfDocument (Conflicts e)) = phrase (codes "conflicts") (expression_json e ∷ [])
question_json (OfDocument AppliedVector) = phrase (codes "vector") []
question_json (Missing v) = phrase (codes "missing") (vector_json v ∷ [])

-- ---- what can be written

-- a step whose key has at most 256 bytes, whose index has 64 bits, or whose id is within its limits
abbrev pub IsSentStep : Step → Type 0
IsSentStep (Get key) = length key ≤ most_key_bytes
IsSentStep (Idx i) = i < 2 ^ 64
IsSentStep (ById a) = IsSentId a

-- such steps
abbrev pub AreSentSteps : List Step → Type 0
AreSentSteps [] = ⊤
AreSentSteps (s ∷ ss) = IsSentStep s × AreSentSteps ss

-- a command whose steps and value are within their limits
pub record IsSentCommand (c : Command) : Type 0 where
  pub expression : AreSentSteps c.expression
  pub mutation : IsSentMutation c.mutation

-- what the program's types guarantee of a step
abbrev pub IsTypedStep : Step → Type 0
IsTypedStep (Get key) = length key ≤ most_key_bytes
IsTypedStep (Idx i) = i < 2 ^ 64
IsTypedStep (ById a) = IsReplicaNumber a.replica

-- and of an expression
abbrev pub AreTypedSteps : List Step → Type 0
AreTypedSteps [] = ⊤
AreTypedSteps (s ∷ ss) = IsTypedStep s × AreTypedSteps ss

-- what a caller answers for: the counter of each id is within the limits of the wire
abbrev pub HasCounters : List Step → Type 0
HasCounters [] = ⊤
HasCounters (ById a ∷ ss) = IsTrue (is_counter a.counter) × HasCounters ss
HasCounters (_ ∷ ss) = HasCounters ss
