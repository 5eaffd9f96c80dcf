-- What a token writer's text is, after JSON was written to it.
use Rattle.std.specs.Prelude.{◌≡◌, List, ◌++◌, Option, Some, None}
use Rattle.std.specs.Borrow.{Bor}
use Rattle.json.specs.Token.{Token}
use Rattle.json.specs.Tree.{items_tokens, json_tokens}
use Rattle.json.specs.Written.{Written}
use Rattle.serde_json.specs.Data.{Data}
use Rattle.serde_json.specs.View.{items_of}
use Rattle.serde_json.specs.Written.{items_outline, outline}
use Rattle.semantics.specs.Paths.{Hop as TheHop}
use Rattle.operation.specs.cursor.Steps.{hop_of}
use Rattle.operation.specs.cursor.declared.hop.Hop.{Hop}
use Rattle.wire.specs.Operations.{key_json, root_json}

-- the tokens of JSON
abbrev pub tokens_of : Data → List Token
tokens_of d = json_tokens (outline d)

-- those of a list's parts, with the closing bracket
abbrev pub tokens_of_all : List Data → List Token
tokens_of_all ds = items_tokens (items_outline (items_of ds))

-- these tokens follow the ones that were there, in the same text
pub record IsWritten (ts : List Token) (old new : Written) : Type 0 where
  pub tokens : new.tokens ≡ old.tokens ++ ts
  pub before : new.before ≡ old.before

-- the key before the first hop is the root's
abbrev pub key_before : Option TheHop → Data
key_before None = root_json
key_before (Some k) = key_json k

-- the key of a hop, if there is one
abbrev pub key_of : Option (Bor Hop) → Option TheHop
key_of None = None
key_of (Some h) = Some (hop_of h.now)
