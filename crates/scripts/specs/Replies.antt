-- The reply to a step, as JSON and as a printed line.
use Rattle.std.specs.Prelude.{ℕ, List, [], ◌∷◌, ◌++◌, Option, Some, None, codes}
use Rattle.ids.specs.declared.refusal.Refusal.{Refusal}
use Rattle.semantics.specs.Engine.{StepReply, Ticket, Denied, Took, Published, Gave, Idle, Unanswered, Replied, Read, Seen, SentHello}
use Rattle.semantics.specs.Engine.{SentBundle, NoMessage, Received, Dropped}
use Rattle.serde_json.specs.Data.{Data, string}
use Rattle.serde_json.specs.Written.{compact_text}
use Rattle.world.specs.wire.Operations.{phrase}
use Rattle.world.specs.wire.Vectors.{count, vector_json}
use Rattle.requests.specs.Readings.{reading_json, refusal_name, reply_json}

-- the first serial and how many operations were submitted, and the line where that stopped, if it did
abbrev pub received_json : ℕ → ℕ → Option (ℕ × Refusal) → Data
received_json first operations None = phrase (codes "received") (count first ∷ count operations ∷ [])
received_json first operations (Some bad) = phrase (codes "received")
    (count first ∷ count operations ∷ count bad.0 ∷ string (refusal_name bad.1) ∷ [])

-- the reply to a step
abbrev pub step_reply_json : StepReply → Data
step_reply_json (Ticket serial) = phrase (codes "ticket") (count serial ∷ [])
step_reply_json (Denied why) = phrase (codes "refused") (string (refusal_name why) ∷ [])
step_reply_json Took = phrase (codes "took") []
step_reply_json (Published items) = phrase (codes "published") (count items ∷ [])
step_reply_json (Gave client serial) = phrase (codes "gave") (count client ∷ count serial ∷ [])
step_reply_json Idle = phrase (codes "idle") []
step_reply_json Unanswered = phrase (codes "none") []
step_reply_json (Replied reply) = reply_json reply
step_reply_json (Read seen reading) = reading_json seen reading
step_reply_json (Seen entries) = phrase (codes "seen") (count entries ∷ [])
step_reply_json (SentHello message v) = phrase (codes "message") (count message ∷ vector_json v ∷ [])
step_reply_json (SentBundle message operations) = phrase (codes "message") (count message ∷ count operations ∷ [])
step_reply_json NoMessage = phrase (codes "none") []
step_reply_json (Received first operations stopped) = received_json first operations stopped
step_reply_json (Dropped operations) = phrase (codes "dropped") (count operations ∷ [])

-- one line of JSON without spaces for each reply, each ended by a line feed
abbrev pub reply_text : List StepReply → List ℕ
reply_text [] = []
reply_text (r ∷ rs) = compact_text (step_reply_json r) ++ 10 ∷ reply_text rs
