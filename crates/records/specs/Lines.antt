-- The lines of a journal: what is recorded of an entry, as JSON.
use Rattle.std.specs.Prelude.{ℕ, List, [], ◌∷◌, codes, map, Result, Ok, Err, if◌then◌else◌}
use Rattle.std.specs.Str.{bytes_eq}
use Rattle.ids.specs.declared.refusal.Refusal.{Refusal}
use Rattle.ids.specs.declared.refusal.Refusal.TheVariants.{BadLine}
use Rattle.semantics.specs.Entries.{Entry}
use Rattle.semantics.specs.Journals.{Recorded, Commanded, Received, recorded}
use Rattle.serde_json.specs.Data.{Data, Items, no_items, item}
use Rattle.serde_json.specs.Written.{compact_text}
use Rattle.requests.specs.declared.edition.Edition.TheVariants.{Second}
use Rattle.requests.specs.Commands.{command_form}
use Rattle.requests.specs.Written.{IsSentCommand, command_json}
use Rattle.requests.specs.wire.Bundles.{lines_text}
use Rattle.requests.specs.wire.Forms.{and_then, json_form, phrase_form}
use Rattle.requests.specs.wire.OpIds.{id_form}
use Rattle.requests.specs.wire.Operations.{id_json, operation_json, phrase}
use Rattle.requests.specs.wire.Reading.{operation_form}
use Rattle.requests.specs.wire.Sent.{IsSent, IsSentId}

-- ---- writing, in JSON without spaces

-- an own command after the id of what was made of it, or an operation as in the first profile
abbrev pub record_json : Recorded → Data
record_json (Commanded a c) = phrase (codes "own") (id_json a ∷ command_json c ∷ [])
record_json (Received s) = operation_json s

-- the line of a record, without its line feed
abbrev pub record_line : Recorded → List ℕ
record_line x = compact_text (record_json x)

-- a line of each entry, with its line feed
abbrev pub journal_text : List Entry → List ℕ
journal_text entries = lines_text (map (λ e. record_json (recorded e)) entries)

-- ---- reading

-- an id and a command
abbrev pub commanded_of : Items → Result Recorded Refusal
commanded_of (item id (item command no_items)) = and_then (λ a. and_then (λ c. Ok (Commanded a c)) (command_form Second command))
    (id_form id)
commanded_of _ = Err BadLine

-- by its word: what follows it, or an operation
abbrev pub worded_record : Data → List ℕ × Items → Result Recorded Refusal
worded_record d p = if bytes_eq p.0 (codes "own") then commanded_of p.1 else and_then (λ s. Ok (Received s)) (operation_form d)

-- the record that a JSON value is
abbrev pub record_of : Data → Result Recorded Refusal
record_of d = and_then (worded_record d) (phrase_form d)

-- the record on a line
abbrev pub record_form : List ℕ → Result Recorded Refusal
record_form line = and_then record_of (json_form line)

-- a record whose lengths and numbers are within their limits
abbrev pub IsSentRecord : Recorded → Type 0
IsSentRecord (Commanded a c) = IsSentId a × IsSentCommand c
IsSentRecord (Received s) = IsSent s
