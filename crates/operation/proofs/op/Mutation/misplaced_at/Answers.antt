use Rattle.cursor.specs.value.Values.{value_of}
use Rattle.operation.proofs.op.Mutation.misplaced_at.Goals as goal

pub returns-in-Insert : goal.returns-in-Insert
returns-in-Insert c = rw c.in-Insert.is (c.insert_misplaced.ensures (value_of c.in-Insert.field-0))
