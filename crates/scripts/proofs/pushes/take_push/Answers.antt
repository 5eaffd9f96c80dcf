use Rattle.std.proofs.Common.{◌≡◌, Ok, Some, sym, ap, ◌∙◌, arith, rules}
use Rattle.std.specs.Prelude.{codes}
use Rattle.json.specs.Json.{after_end_array}
use Rattle.semantics.specs.World.{Push, step_by}
use Rattle.serde_json.specs.Data.{array, item, no_items, number, string, unsigned}
use Rattle.world.specs.operation.Ops.{command_of}
use Rattle.requests.proofs.TakenParts.{deeper, four_parts}
use Rattle.scripts.proofs.PushedSteps.{pushes}
use Rattle.scripts.proofs.pushes.take_push.Goals as goal

pub returns : goal.returns
returns c =
    let word = c.in_ok-take_text.field-0.now in
    let engine = c.in_ok-engine.engine in
    let client = c.in_ok-client.client in
    let says : word ≡ codes "push" = search rules in
    let command = c.in_ok-take_command.ensures in
    let shared : c.in_ok-command.command ≡ c.in_ok-take_command.field-0 = search rules in
    let ends : after_end_array c.take_command.new.reader ≡ Some c.take_end_array.new.self = search rules in (
      array (item (string word) (item (number (unsigned engine)) (item (number (unsigned client)) (item command.0 no_items)))),
      four_parts 3 _ _ _ _ _ _ _ (string word) (number (unsigned engine)) (number (unsigned client)) command.0 c.if-not-opens.ensures
          (deeper 0 3 _ _ _ (omega arith) c.in_ok-take_text.ensures) (deeper 0 3 _ _ _ (omega arith) c.in_ok-engine.ensures)
          (deeper 0 3 _ _ _ (omega arith) c.in_ok-client.ensures) command.1 ends,
      pushes c.args.edition word engine client command.0 _ says command.2
          ∙ ap (λ k. Ok (step_by engine (Push client (command_of k)))) (sym shared),
    )
