use Rattle.cursor.specs.value.Values.{value_of}
use Rattle.operation.proofs.command.Command.misplaced_at.Goals as goal

pub returns-in-InsertAfter : goal.returns-in-InsertAfter
returns-in-InsertAfter c = rw c.in-InsertAfter.is (c.insert_misplaced.ensures (value_of c.in-InsertAfter.field-1))
