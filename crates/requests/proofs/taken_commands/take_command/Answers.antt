use Rattle.std.proofs.Common.{◌≡◌, Ok, Some, map, sym, ap, ◌∙◌, arith, rules}
use Rattle.std.specs.Prelude.{codes}
use Rattle.json.specs.Json.{after_end_array}
use Rattle.serde_json.specs.Data.{array, item, no_items, string}
use Rattle.document.specs.cursor.Steps.{step_of}
use Rattle.document.specs.operation.Ops.{command_of}
use Rattle.requests.specs.Expressions.{expression_form}
use Rattle.requests.proofs.TakenCommands.{assigns, deletes, inserts}
use Rattle.requests.proofs.TakenParts.{deeper, three_parts, two_parts}
use Rattle.requests.proofs.taken_commands.take_command.Goals.{in-assign+in_ok-take_value-in-assign}
use Rattle.requests.proofs.taken_commands.take_command.Goals.{in-insert+in_ok-take_value-in-insert, in-delete}
use Rattle.requests.proofs.taken_commands.take_command.Goals as goal

pub returns : goal.returns
returns c =
    let edition = c.args.edition in
    let word = c.in_ok-word.word.now in
    let said = deeper 0 2 _ _ _ (omega arith) c.in_ok-word.ensures in
    let taken = c.in_ok-take_steps.ensures in
    let steps = map step_of c.in_ok-take_steps.field-0.items in
    let same : map step_of c.expression.inside.steps.items ≡ steps = search rules in
    let path : expression_form edition taken.0 ≡ Ok (map step_of c.expression.inside.steps.items) = taken.2 ∙ ap Ok (sym same) in
    let ends : after_end_array c.match-word.reader ≡ Some c.take_end_array.new.self = search rules in
    elim c.match-word.branch [
      | in-assign+in_ok-take_value-in-assign w ↦
          let written = w.in_ok-take_value-in-assign.ensures in
          let says : word ≡ codes "assign" = search rules in (
            array (item (string word) (item taken.0 (item written.0 no_items))),
            three_parts 2 _ _ _ _ _ _ (string word) taken.0 written.0 c.if-not-opens.ensures said taken.1
                (deeper 1 2 _ _ _ (omega arith) written.1) (rw (← w.reader-is) ends),
            assigns edition word taken.0 _ path written.0 _ written.2 says ∙ ap (λ k. Ok (command_of k)) (sym w.command-is),
          )
      | in-insert+in_ok-take_value-in-insert w ↦
          let written = w.in_ok-take_value-in-insert.ensures in
          let says : word ≡ codes "insert" = search rules in (
            array (item (string word) (item taken.0 (item written.0 no_items))),
            three_parts 2 _ _ _ _ _ _ (string word) taken.0 written.0 c.if-not-opens.ensures said taken.1
                (deeper 1 2 _ _ _ (omega arith) written.1) (rw (← w.reader-is) ends),
            inserts edition word taken.0 _ path written.0 _ written.2 says ∙ ap (λ k. Ok (command_of k)) (sym w.command-is),
          )
      | in-delete w ↦
          let says : word ≡ codes "delete" = search rules in (
            array (item (string word) (item taken.0 no_items)),
            two_parts 2 _ _ _ _ _ (string word) taken.0 c.if-not-opens.ensures said taken.1 (rw (← w.reader-is) ends),
            deletes edition word taken.0 _ (taken.2 ∙ ap Ok (sym c.new-expression.ensures)) says
                ∙ ap (λ k. Ok (command_of k)) (sym w.command-is),
          )
    ]
