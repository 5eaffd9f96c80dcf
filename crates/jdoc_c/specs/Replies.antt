-- What documents and readers reply to lines.
use Rattle.std.specs.Prelude.{◌≡◌, ◌⊎◌, ◌≤◌, ◌<◌, ℕ, List, [], length, Result, Ok, Err}
use Rattle.ids.specs.declared.refusal.Refusal.{Refusal}
use Rattle.ids.specs.declared.refusal.Refusal.TheVariants.{BadLine}
use Rattle.semantics.specs.Entries.{Entry}
use Rattle.wire.specs.Lines.{IsFirstLine}
use Rattle.serde_json.specs.Data.{Data}
use Rattle.serde_json.specs.Written.{compact_text}
use Rattle.calls.specs.Calls as call
use Rattle.calls.specs.Calls.{call_form}
use Rattle.calls.specs.Responses.{response_json}
use Rattle.calls.specs.declared.response.Response.{Response}
use Rattle.calls.specs.declared.response.Response.TheVariants as said
use Rattle.serving.specs.Desks.{AnswersLine, Asks, Desk, Looks}

-- the most bytes of a line
abbrev pub most_line : ℕ
most_line = 33554432

-- the response of a document to a line, and what it leaves; a line that is too long isn't a call
abbrev pub Responds : Desk → (line : List ℕ) → Response → Desk → Type 0
Responds m line r n =
    ((length line ≤ most_line) × AnswersLine m line r n)
    ⊎ ((most_line < length line) × (r ≡ said.Denied BadLine) × (n ≡ m))

-- the response of a reader to what a line calls for: it answers questions and glances as a document does, and refuses everything else
abbrev pub Reads : List Entry → Result call.Call Refusal → Response → Type 0
Reads G (Ok (call.Ask q)) r = Asks G q r
Reads G (Ok (call.Glance steps depth elements)) r = Looks G steps depth elements r
Reads G (Ok _) r = r ≡ said.Denied BadLine
Reads G (Err why) r = r ≡ said.Denied why

-- the response of a reader to a line
abbrev pub ReadsLine : List Entry → (line : List ℕ) → Response → Type 0
ReadsLine G line r =
    ((length line ≤ most_line) × Reads G (call_form line) r)
    ⊎ ((most_line < length line) × (r ≡ said.Denied BadLine))

-- the line of a response, with its line feed
abbrev pub IsLineOf : Response → List ℕ → Type 0
IsLineOf r text = (shown : Data) × IsFirstLine text (compact_text (response_json shown r)) []

-- the reply of a document to a line, and what it leaves
abbrev pub Replies : Desk → (line reply : List ℕ) → Desk → Type 0
Replies m line reply n = (r : Response) × IsLineOf r reply × Responds m line r n

-- what is left of a document that lacked the memory for its reply: it is unchanged, or as after a response
abbrev pub MayRespond : Desk → (line : List ℕ) → Desk → Type 0
MayRespond m line n = (n ≡ m) ⊎ ((r : Response) × Responds m line r n)

-- the reply of a reader to a line
abbrev pub ReadReply : List Entry → (line reply : List ℕ) → Type 0
ReadReply G line reply = (r : Response) × IsLineOf r reply × ReadsLine G line r
