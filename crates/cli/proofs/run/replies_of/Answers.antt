use Rattle.std.proofs.Common.{◌≡◌, ◌++◌, ◌∙◌, ℕ, List, [], Option, None, Some, IfSome, ap, subst}
use Rattle.scripts.specs.Errors.{IsErrorOf}
use Rattle.scripts.specs.Scripts.{script_form}
use Rattle.scripts.specs.declared.error.ScriptError.{ScriptError}
use Rattle.cli.proofs.run.replies_of.Goals as goal

-- the error of what was read into an empty buffer is that of the known bytes
of_known : (known : Option (List ℕ)) (before after read : List ℕ) (e : ScriptError) → before ≡ []
    → IfSome known (λ bytes. after ≡ before ++ bytes) → read ≡ after
    → IsErrorOf (script_form read) e → IfSome known (λ bytes. IsErrorOf (script_form bytes) e)
of_known None before after read e empty known slice is = tt
of_known (Some bytes) before after read e empty known slice is =
    subst (λ (text : List ℕ). IsErrorOf (script_form text) e) (slice ∙ known ∙ ap (λ (start : List ℕ). start ++ bytes) empty) is

pub returns-clause-err : goal.returns-clause-err
returns-clause-err g c =
    of_known (g.R.Read.remaining c.args.reader.now) c.new-bytes.result.items c.read_to_end.new.buf.items c.as_slice.result.now
    c.in-Err-replies_to.error c.new-bytes.ensures.items c.in_default.ensures.bytes c.as_slice.ensures.value
    c.in-Err-replies_to.ensures.err
