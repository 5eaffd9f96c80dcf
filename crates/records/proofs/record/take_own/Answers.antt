use Rattle.std.proofs.Common.{◌≡◌, Ok, Some, sym, ap, ◌∙◌, arith, rules}
use Rattle.std.specs.Prelude.{codes}
use Rattle.json.specs.Json.{after_end_array}
use Rattle.semantics.specs.Journals.{Commanded}
use Rattle.serde_json.specs.Data.{array, item, no_items, string}
use Rattle.requests.specs.operation.Ops.{command_of}
use Rattle.requests.proofs.TakenParts.{deeper, three_parts}
use Rattle.records.proofs.OwnLines.{own_meant}
use Rattle.records.proofs.record.take_own.Goals as goal

pub returns : goal.returns
returns c =
    let word = c.in_ok-take_text.field-0.now in
    let says : word ≡ codes "own" = search rules in
    let id = c.in_ok-id.ensures in
    let command = c.in_ok-take_command.ensures in
    let shared : c.in_ok-command.command ≡ c.in_ok-take_command.field-0 = search rules in
    let ends : after_end_array c.take_command.new.reader ≡ Some c.take_end_array.new.self = search rules in (
      array (item (string word) (item id.0 (item command.0 no_items))),
      three_parts 3 _ _ _ _ _ _ (string word) id.0 command.0 c.if-not-opens.ensures
          (deeper 0 3 _ _ _ (omega arith) c.in_ok-take_text.ensures) (deeper 1 3 _ _ _ (omega arith) id.1) command.1 ends,
      own_meant word id.0 command.0 _ _ says id.2 command.2 ∙ ap (λ k. Ok (Commanded c.in_ok-id.id (command_of k))) (sym shared),
    )
