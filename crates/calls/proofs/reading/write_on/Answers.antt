use Rattle.std.proofs.Common.{◌≡◌, [], ap, ◌∙◌, subst, rules}
use Rattle.json.specs.Lex.{tokens}
use Rattle.requests.specs.declared.edition.Edition.TheVariants.{Second}
use Rattle.requests.specs.operation.Ops.{command_of}
use Rattle.requests.specs.Commands.{command_form}
use Rattle.requests.specs.Taken.{IsTakenAs}
use Rattle.calls.proofs.TakenWrites.{line_is_write}
use Rattle.calls.proofs.reading.write_on.Goals as goal

pub returns : goal.returns
returns c =
    let line = c.args.line.now in
    let command = command_of c.in_ok-command.command in
    let text = c.in-Ok.ensures.cases in
    let begun : c.in-Ok-new.reader ≡ tokens line = c.in-Ok-new.ensures.ok ∙ ap tokens text.0 in
    let over : c.take_command.new.reader ≡ [] = search rules in
    line_is_write line command text.1
    (subst (λ ts. IsTakenAs 3 (command_form Second) ts command []) begun
    (subst (λ ts. IsTakenAs 3 (command_form Second) c.in-Ok-new.reader command ts) over c.in_ok-command.ensures))
