-- The parts of an engine of the program as those of the definitions.
use Rattle.std.specs.Prelude.{◌+◌, ℕ, ⊤, Bool, true, false, List, map, Option, Some, None, option_map}
use Rattle.ids.specs.Configurations.{Configuration}
use Rattle.ids.specs.declared.refusal.Refusal.{Refusal}
use Rattle.ids.specs.declared.refusal.Refusal.TheVariants.{NoMemory}
use Rattle.semantics.specs.LegalAnswer.{Reply, RefusedAt}
use Rattle.semantics.specs.Engine as engine
use Rattle.semantics.specs.Engine.{Engine}
use Rattle.semantics.specs.World.{WorldStep}
use Rattle.semantics.specs.WorldHistory.{IsEngineAfter}
use Rattle.replica.specs.operation.Ops.{stamped_of}
use Rattle.replica.specs.operation.Submissions.{reply_of, submitted_of}
use Rattle.world.specs.declared.engine.Handled.{Handled}
use Rattle.world.specs.declared.client.Given.{Given}
use Rattle.world.specs.declared.client.Cell.{Cell}
use Rattle.world.specs.declared.client.Client.{Client}
use Rattle.world.specs.declared.message.Message.{Message}
use Rattle.world.specs.declared.message.Message.TheVariants as message

-- a submission that was handled
abbrev pub handled_of : Handled → engine.Handled
handled_of h = record { submitted = submitted_of h.submission; reply = reply_of h.reply }

-- an answer that was set
abbrev pub given_of : Given → engine.Given
given_of g = record { reply = reply_of g.reply; published = g.published }

-- what was submitted under a serial, with its answer
abbrev pub cell_of : Cell → engine.Cell
cell_of cell = record { submitted = submitted_of cell.submission; answer = option_map given_of cell.answer }

-- a client
abbrev pub client_of : Client → engine.Client
client_of k = record { seen = k.seen; cells = map cell_of k.cells.items }

-- a message
abbrev pub message_of : Message → engine.Message
message_of (message.Hello v) = engine.Hello v
message_of (message.Bundle ops) = engine.Bundle (map stamped_of ops.items)

-- the reply to a request that was refused for this reason, or else taken under the serial
abbrev pub taken_or_denied : ℕ → Option Refusal → engine.StepReply
taken_or_denied serial None = engine.Ticket serial
taken_or_denied serial (Some why) = engine.Denied why

-- the next line, if that is refused
abbrev pub stop_after : ℕ → Option Refusal → Option (ℕ × Refusal)
stop_after n refused = option_map (λ why. (n + 1, why)) refused

-- the first of two refusals
abbrev pub first_of : Option Refusal → Option Refusal → Option Refusal
first_of None other = other
first_of (Some why) other = Some why

-- steps lead from a new world to one that has this engine
abbrev pub IsReachedEngine : Engine → Type 0
IsReachedEngine E = (cs : List Configuration) × (steps : List WorldStep) × (e : ℕ) × IsEngineAfter cs steps e E

-- there is no hello
abbrev pub IsNoHello : Option engine.Message → Type 0
IsNoHello None = ⊤
IsNoHello (Some (engine.Hello v)) = ⊥
IsNoHello (Some (engine.Bundle ss)) = ⊤

-- the submission was refused because allocation failed
abbrev pub is_no_memory : Reply → Bool
is_no_memory (RefusedAt NoMemory m) = true
is_no_memory _ = false
