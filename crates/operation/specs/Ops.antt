-- Commands, operations and entries of the program as those of the definitions.
use Rattle.semantics.specs.Operations.{Misplaced as WhyMisplaced, Mutation as TheMutation, Assign as Assigning, Insert as Inserting}
use Rattle.semantics.specs.Operations.{Delete as Deleting}
use Rattle.semantics.specs.Operations as operations
use Rattle.semantics.specs.Stamped.{Stamped}
use Rattle.semantics.specs.Making.{Command as TheCommand}
use Rattle.semantics.specs.Entries.{Entry as TheEntry, Own as TheOwn, Peer as ThePeer}
use Rattle.cursor.specs.value.Values.{value_of}
use Rattle.operation.specs.declared.misplaced.Misplaced.{Misplaced}
use Rattle.operation.specs.declared.misplaced.Misplaced.TheVariants.{OutsideList, OnHead}
use Rattle.operation.specs.declared.op.Mutation.{Mutation}
use Rattle.operation.specs.declared.op.Mutation.TheVariants as mutation
use Rattle.operation.specs.declared.op.Op.{Op}
use Rattle.operation.specs.declared.command.Command.{Command}
use Rattle.operation.specs.declared.command.Command.TheVariants as command
use Rattle.operation.specs.declared.command.Entry.{Entry}
use Rattle.operation.specs.declared.command.Entry.TheVariants.{Own, Peer}

-- a mutation
abbrev pub mutation_of : Mutation → TheMutation
mutation_of (mutation.Assign v) = Assigning (value_of v)
mutation_of (mutation.Insert v) = Inserting (value_of v)
mutation_of mutation.Delete = Deleting

-- why a mutation can't stand at a place
abbrev pub misplaced_of : Misplaced → WhyMisplaced
misplaced_of OutsideList = operations.OutsideList
misplaced_of OnHead = operations.OnHead

-- a command
abbrev pub command_of : Command → TheCommand
command_of (command.Assign e v) = record { expression = e; mutation = Assigning (value_of v) }
command_of (command.InsertAfter e v) = record { expression = e; mutation = Inserting (value_of v) }
command_of (command.Delete e) = record { expression = e; mutation = Deleting }

-- an operation
abbrev pub stamped_of : Op → Stamped
stamped_of o = record { id = o.id; vector = o.deps; place = o.place; mutation = mutation_of o.mutation }

-- the operation of an entry
abbrev pub op_in : Entry → Op
op_in (Own client serial c o) = o
op_in (Peer o) = o

-- an entry
abbrev pub entry_of : Entry → TheEntry
entry_of (Own client serial c o) = TheOwn client serial (command_of c) (stamped_of o)
entry_of (Peer o) = ThePeer (stamped_of o)
