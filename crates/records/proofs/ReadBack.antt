-- What is written of a record is read as that record.
use Rattle.std.proofs.Common.{◌≡◌, ◌≤◌, Ok, IsUtf8, ap, ◌∙◌, arith}
use Rattle.semantics.specs.Journals.{Recorded, Commanded, Received}
use Rattle.serde_json.specs.Data.{depth}
use Rattle.requests.specs.declared.edition.Edition.TheVariants.{Second}
use Rattle.requests.specs.Commands.{command_form}
use Rattle.requests.specs.Written.{command_json}
use Rattle.requests.proofs.CommandTexts.{command_whole, depth-command_json}
use Rattle.requests.proofs.ReadBack.{command_back}
use Rattle.requests.specs.wire.Forms.{and_then}
use Rattle.requests.proofs.wire.JsonTexts.{json_form-read}
use Rattle.requests.proofs.wire.ReadBack.{id_back, operation_back}
use Rattle.requests.proofs.wire.ShallowForms.{depth-operation_json}
use Rattle.requests.proofs.wire.WholeOperations.{counter, operation, replica}
use Rattle.requests.proofs.wire.WholeTexts.{HasWhole, read-compact_text}
use Rattle.records.specs.Lines.{IsSentRecord, record_form, record_json, record_line, record_of}

whole : (x : Recorded) → IsSentRecord x → HasWhole (record_json x)
whole (Commanded a c) h = (tt, ((counter a h.0, (replica a h.0, tt)), (command_whole c h.1, tt)))
whole (Received s) h = operation s h

shallow : (x : Recorded) → depth (record_json x) ≤ 127
shallow (Commanded a c) = omega (arith, depth-command_json c)
shallow (Received s) = omega (arith, depth-operation_json s)

back : (x : Recorded) → IsSentRecord x → record_of (record_json x) ≡ Ok x
back (Commanded a c) h =
    ap (and_then (λ b. and_then (λ d. Ok (Commanded b d)) (command_form Second (command_json c)))) (id_back a h.0)
    ∙ ap (and_then (λ d. Ok (Commanded a d))) (command_back c h.1)
back (Received s) h = ap (and_then (λ t. Ok (Received t))) (operation_back s h)

pub record_back : (x : Recorded) → IsSentRecord x → IsUtf8 (record_line x) → record_form (record_line x) ≡ Ok x
record_back x h utf8 =
    let d = record_json x in
    ap (and_then record_of) (json_form-read (record_line x) d utf8 (read-compact_text d (whole x h) (shallow x)))
    ∙ back x h
