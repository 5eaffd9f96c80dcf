use Rattle.std.proofs.Common.{◌≡◌, [], IsUtf8, subst, rules}
use Rattle.json.specs.Lex.{tokens}
use Rattle.world.specs.Acts.{step_of}
use Rattle.requests.specs.Taken.{IsTakenAs}
use Rattle.scripts.specs.Steps.{step_form}
use Rattle.scripts.proofs.PushedSteps.{line_is_step}
use Rattle.scripts.proofs.pushes.push_on.Goals as goal

pub returns : goal.returns
returns c =
    let edition = c.args.edition in
    let text = c.args.text.now in
    let step = step_of c.in_ok-step.step in
    let utf8 : IsUtf8 text = search rules in
    let begun : c.in_ok-reader.reader ≡ tokens text = search rules in
    let over : c.take_push.new.reader ≡ [] = search rules in
    line_is_step edition text step utf8
    (subst (λ ts. IsTakenAs 4 (step_form edition) ts step []) begun
    (subst (λ ts. IsTakenAs 4 (step_form edition) c.in_ok-reader.reader step ts) over c.in_ok-step.ensures))
