-- What a line calls for.
use Rattle.std.specs.Prelude.{ℕ, List, codes, Result, Ok, Err, if◌then◌else◌, string_bytes}
use Rattle.std.specs.Str.{bytes_eq}
use Rattle.ids.specs.declared.refusal.Refusal.{Refusal}
use Rattle.ids.specs.declared.refusal.Refusal.TheVariants.{BadLine}
use Rattle.semantics.specs.Making.{Command}
use Rattle.semantics.specs.Questions.{Step}
use Rattle.semantics.specs.LegalAnswer.{Asked}
use Rattle.serde_json.specs.Data.{Data, Items, no_items, item}
use Rattle.requests.specs.document.Documents.{asked_of}
use Rattle.requests.specs.operation.Ops.{command_of}
use Rattle.requests.specs.declared.edition.Edition.TheVariants.{Second}
use Rattle.requests.specs.Commands.{command_form}
use Rattle.requests.specs.Expressions.{expression_form}
use Rattle.requests.specs.Questions.{question_form}
use Rattle.requests.specs.wire.Forms.{and_then, json_form, number_form, phrase_form, text_form}
use Rattle.calls.specs.declared.call.Call.{Call as TypedCall}
use Rattle.calls.specs.declared.call.Call.TheVariants as typed

-- a command to be made, a question, a look at what is beneath an element, a request for a hello or for the answer to one, a bundle to be
-- received, a save, or a question about the status
pub data Call : Type 0 where
  Write : Command → Call
  Ask : Asked → Call
  Glance : (expression : List Step) → (depth elements : ℕ) → Call
  Hello : Call
  Answer : (hello : List ℕ) → Call
  Receive : (bundle : List ℕ) → Call
  Save : Call
  Status : Call

-- what a call of the program calls for
abbrev pub call_of : TypedCall → Call
call_of (typed.Write c) = Write (command_of c)
call_of (typed.Ask q) = Ask (asked_of q)
call_of (typed.Glance e depth elements) = Glance e depth elements
call_of typed.Hello = Hello
call_of (typed.Answer hello) = Answer (string_bytes hello)
call_of (typed.Receive bundle) = Receive (string_bytes bundle)
call_of typed.Save = Save
call_of typed.Status = Status

-- ---- reading; the first fault from the left decides

-- a command, as in a script of the second edition
abbrev pub write_form : Data → Result Call Refusal
write_form d = and_then (λ c. Ok (Write c)) (command_form Second d)

-- a question, as in such a script
abbrev pub ask_form : Data → Result Call Refusal
ask_form d = and_then (λ q. Ok (Ask q)) (question_form Second d)

-- an expression and two numbers
abbrev pub glance_of : Items → Result Call Refusal
glance_of (item expression (item depth (item elements no_items))) =
    and_then (λ e. and_then (λ d. and_then (λ n. Ok (Glance e d n)) (number_form elements)) (number_form depth))
    (expression_form Second expression)
glance_of _ = Err BadLine

-- a text alone
abbrev pub text_of : (List ℕ → Call) → Items → Result Call Refusal
text_of what (item text no_items) = and_then (λ t. Ok (what t)) (text_form text)
text_of what _ = Err BadLine

-- nothing
abbrev pub nothing_of : Call → Items → Result Call Refusal
nothing_of what no_items = Ok what
nothing_of what (item _ _) = Err BadLine

-- by its word, if it isn't one of those below; any other word is a question's
abbrev pub other_call_of : Data → List ℕ × Items → Result Call Refusal
other_call_of d p = if bytes_eq p.0 (codes "hello") then nothing_of Hello p.1
    else (if bytes_eq p.0 (codes "answer") then text_of Answer p.1
    else (if bytes_eq p.0 (codes "receive") then text_of Receive p.1
    else (if bytes_eq p.0 (codes "save") then nothing_of Save p.1
    else (if bytes_eq p.0 (codes "status") then nothing_of Status p.1 else ask_form d))))

-- by its word
abbrev pub worded_call : Data → List ℕ × Items → Result Call Refusal
worded_call d p = if bytes_eq p.0 (codes "assign") then write_form d
    else (if bytes_eq p.0 (codes "insert") then write_form d
    else (if bytes_eq p.0 (codes "delete") then write_form d
    else (if bytes_eq p.0 (codes "glance") then glance_of p.1 else other_call_of d p)))

-- the call that a JSON value is
abbrev pub call_of_json : Data → Result Call Refusal
call_of_json d = and_then (worded_call d) (phrase_form d)

-- the call on a line
abbrev pub call_form : List ℕ → Result Call Refusal
call_form line = and_then call_of_json (json_form line)
