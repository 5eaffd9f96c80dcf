-- An operation that names a counter which its replica never used: it waits, becomes ready, and is dropped.
use Rattle.std.specs.Prelude.{◌≡◌, ℕ, [], ◌∷◌, codes, reverse, refl}
use Rattle.ids.specs.declared.refusal.Refusal.TheVariants.{NamesNothing}
use Rattle.semantics.specs.Ids.{id_at}
use Rattle.semantics.specs.Elements.{At}
use Rattle.semantics.specs.Operations.{Delete}
use Rattle.semantics.specs.Questions.{Get}
use Rattle.semantics.specs.Vectors.{Vector}
use Rattle.semantics.specs.Stamped.{Stamped}
use Rattle.semantics.specs.Making.{Command}
use Rattle.semantics.specs.Entries.{stamped_entries}
use Rattle.semantics.specs.Replica.{Replica}
use Rattle.semantics.specs.Delivery.{Kept, NotKept, answer_to}
use Rattle.semantics.specs.Drain.{receive}
use Rattle.semantics.proofs.ExampleWords.{delete, field, sent, new, after_commands, history, held}

-- each operation is a delete of one field
abbrev command : Command
command = delete (Get (codes "key") ∷ [])

abbrev deletes_key : ℕ → ℕ → Vector → Stamped
deletes_key c p v = sent c p v (At (field (codes "key"))) Delete

-- replica 1 makes two, receives one of replica 2, and makes two more
abbrev before : Replica
before = after_commands (receive (after_commands (new 1) (command ∷ command ∷ [])) (deletes_key 3 2 (id_at 2 1 ∷ [])))
    (command ∷ command ∷ [])

before_operations : reverse (stamped_entries before.entries)
    ≡ deletes_key 1 1 []
    ∷ deletes_key 2 1 (id_at 1 1 ∷ [])
    ∷ deletes_key 3 2 (id_at 2 1 ∷ [])
    ∷ deletes_key 4 1 (id_at 2 1 ∷ id_at 3 2 ∷ [])
    ∷ deletes_key 5 1 (id_at 4 1 ∷ id_at 3 2 ∷ [])
    ∷ []
before_operations = refl

-- replica 2 has no operation with the counter 4
abbrev forged : Stamped
forged = deletes_key 6 3 (id_at 5 1 ∷ id_at 4 2 ∷ [])

forged_answer : answer_to before forged ≡ Kept
forged_answer = refl

abbrev between : Replica
between = receive before forged

forged_waits : held between ≡ id_at 6 3 ∷ []
forged_waits = refl

-- with its next one the forged one is ready
abbrev next : Stamped
next = deletes_key 6 2 (id_at 5 1 ∷ id_at 3 2 ∷ [])

next_answer : answer_to between next ≡ Kept
next_answer = refl

abbrev after : Replica
after = receive between next

after_history : history after ≡ id_at 1 1 ∷ id_at 2 1 ∷ id_at 3 2 ∷ id_at 4 1 ∷ id_at 5 1 ∷ id_at 6 2 ∷ []
after_history = refl

after_held : held after ≡ []
after_held = refl

after_dropped : after.dropped ≡ 1
after_dropped = refl

-- delivered again, it is refused at once
forged_again : answer_to after forged ≡ NotKept NamesNothing
forged_again = refl

again_dropped : (receive after forged).dropped ≡ 1
again_dropped = refl
