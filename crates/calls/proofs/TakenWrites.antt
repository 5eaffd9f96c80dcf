-- What has the form of a command is a write.
use Rattle.std.proofs.Common.{◌≡◌, ℕ, List, [], Bool, true, false, cond, IsUtf8, Result, Ok, Err, ap, ◌∙◌, arith}
use Rattle.std.specs.Prelude.{codes}
use Rattle.std.specs.Str.{bytes_eq}
use Rattle.ids.specs.declared.refusal.Refusal.{Refusal}
use Rattle.ids.specs.declared.refusal.Refusal.TheVariants.{BadLine}
use Rattle.json.specs.Lex.{tokens}
use Rattle.semantics.specs.Making.{Command}
use Rattle.serde_json.specs.Data.{Data}
use Rattle.requests.specs.declared.edition.Edition.TheVariants.{Second}
use Rattle.requests.specs.Commands.{command_form, command_of}
use Rattle.requests.specs.Taken.{IsTakenAs}
use Rattle.requests.specs.wire.Forms.{and_then, phrase_form}
use Rattle.requests.proofs.TakenParts.{line_of}
use Rattle.requests.proofs.wire.WrittenBack.{made_of}
use Rattle.calls.specs.Calls.{Call, Write, call_form, call_of_json, worded_call, write_form}

-- a command is assign, insert or delete, and each of these words is a write's
worded : (assigns inserts deletes : Bool) (a b d : Result Command Refusal) (write other : Result Call Refusal) (c : Command) (k : Call)
    → cond assigns a (cond inserts b (cond deletes d (Err BadLine))) ≡ Ok c → write ≡ Ok k
    → cond assigns write (cond inserts write (cond deletes write other)) ≡ Ok k
worded true inserts deletes a b d write other c k is writes = writes
worded false true deletes a b d write other c k is writes = writes
worded false false true a b d write other c k is writes = writes
worded false false false a b d write other c k is writes = absurd (cc)

pub write_meant : (d : Data) (c : Command) → command_form Second d ≡ Ok c → call_of_json d ≡ Ok (Write c)
write_meant d c is =
    let p = made_of (command_of Second) (phrase_form d) c is in
    let writes : write_form d ≡ Ok (Write c) = ap (and_then (λ x. Ok (Write x))) is in
    ap (and_then (worded_call d)) p.1
    ∙ worded (bytes_eq p.0.0 (codes "assign")) (bytes_eq p.0.0 (codes "insert")) (bytes_eq p.0.0 (codes "delete")) _ _ _ (write_form d) _ c
    (Write c) p.2 writes

-- a line whose tokens are a command and no more
pub line_is_write : (line : List ℕ) (c : Command) → IsUtf8 line → IsTakenAs 3 (command_form Second) (tokens line) c []
    → call_form line ≡ Ok (Write c)
line_is_write line c utf8 taken =
    ap (and_then call_of_json) (line_of 3 line taken.0 (omega arith) utf8 taken.1) ∙ write_meant taken.0 c taken.2
