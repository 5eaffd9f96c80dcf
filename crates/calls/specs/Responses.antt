-- The response to a call, as JSON.
use Rattle.std.specs.Prelude.{⊤, [], ◌∷◌, Option, Some, None, codes, string_bytes}
use Rattle.semantics.specs.LegalAnswer.{Made, RefusedAt}
use Rattle.serde_json.specs.Data.{Data, array, boolean, null, string}
use Rattle.serde_json.specs.View.{items_of}
use Rattle.requests.specs.document.Documents.{said_by}
use Rattle.requests.specs.Readings.{reading_json, refusal_name, reply_json}
use Rattle.requests.specs.wire.Messages.{hello_json}
use Rattle.requests.specs.wire.Operations.{phrase}
use Rattle.requests.specs.wire.Vectors.{count}
use Rattle.calls.specs.declared.response.RefusedLines.{RefusedLines}
use Rattle.calls.specs.declared.response.StoppedLine.{StoppedLine}
use Rattle.calls.specs.declared.response.Response.{Response}
use Rattle.calls.specs.declared.response.Response.TheVariants as said

-- how many lines were refused, and the first of them with its code
abbrev pub refused_json : Option RefusedLines → Data
refused_json None = null
refused_json (Some r) = array (items_of (count r.count ∷ count r.line ∷ string (refusal_name r.why) ∷ []))

-- the line at which reading a bundle stopped, with its code
abbrev pub stopped_json : Option StoppedLine → Data
stopped_json None = null
stopped_json (Some s) = array (items_of (count s.line ∷ string (refusal_name s.why) ∷ []))

-- a response; what a glance shows is given as this JSON
abbrev pub response_json : (shown : Data) → Response → Data
response_json shown (said.Made id position) = reply_json (Made id position)
response_json shown (said.Refused why length) = reply_json (RefusedAt why length)
response_json shown (said.Denied why) = phrase (codes "refused") (string (refusal_name why) ∷ [])
response_json shown (said.Read length reading) = reading_json length (said_by reading)
response_json shown (said.Glance length g) = phrase (codes "glance") (count length ∷ shown ∷ [])
response_json shown (said.Hello v) = hello_json v
response_json shown (said.Bundle lines has_more is_beyond) =
    phrase (codes "bundle") (string (string_bytes lines) ∷ boolean has_more ∷ boolean is_beyond ∷ [])
response_json shown (said.Received taken refused stopped) =
    phrase (codes "received") (count taken ∷ refused_json refused ∷ stopped_json stopped ∷ [])
response_json shown (said.Saved length) = phrase (codes "saved") (count length ∷ [])
response_json shown (said.Status number length saved) = phrase (codes "status") (count number ∷ count length ∷ count saved ∷ [])
response_json shown (said.Ready number length) = phrase (codes "ready") (count number ∷ count length ∷ [])
response_json shown (said.Unsaved length saved) = phrase (codes "unsaved") (count length ∷ count saved ∷ [])
response_json shown said.Lost = phrase (codes "lost") []

-- any response other than a glance
abbrev pub IsNoGlance : Response → Type 0
IsNoGlance (said.Glance length g) = ⊥
IsNoGlance _ = ⊤
