-- What a list of a word, an id and a command records.
use Rattle.std.proofs.Common.{◌≡◌, List, [], ℕ, IsUtf8, Ok, ap, ◌∙◌, arith}
use Rattle.std.specs.Prelude.{codes}
use Rattle.json.specs.Lex.{tokens}
use Rattle.semantics.specs.Ids.{OpId}
use Rattle.semantics.specs.Journals.{Commanded, Recorded}
use Rattle.semantics.specs.Making.{Command}
use Rattle.serde_json.specs.Data.{Data, array, item, no_items, string}
use Rattle.requests.specs.declared.edition.Edition.TheVariants.{Second}
use Rattle.requests.specs.Commands.{command_form}
use Rattle.requests.specs.Taken.{IsTakenAs}
use Rattle.requests.specs.wire.Forms.{and_then}
use Rattle.requests.specs.wire.OpIds.{id_form}
use Rattle.requests.proofs.TakenParts.{line_of}
use Rattle.records.specs.Lines.{record_form, record_of}

pub own_meant : (word : List ℕ) (i d : Data) (a : OpId) (c : Command) → word ≡ codes "own" → id_form i ≡ Ok a
    → command_form Second d ≡ Ok c → record_of (array (item (string word) (item i (item d no_items)))) ≡ Ok (Commanded a c)
own_meant word i d a c e id command = ap (λ w. record_of (array (item (string w) (item i (item d no_items))))) e ∙ rw (id, command)

-- a line whose tokens are a record and no more
pub line_is_record : (line : List ℕ) (x : Recorded) → IsUtf8 line → IsTakenAs 4 record_of (tokens line) x [] → record_form line ≡ Ok x
line_is_record line x utf8 taken = ap (and_then record_of) (line_of 4 line taken.0 (omega arith) utf8 taken.1) ∙ taken.2
