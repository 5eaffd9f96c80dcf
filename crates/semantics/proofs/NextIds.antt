-- What a replica makes changes nothing until it is committed.
use Rattle.std.specs.Prelude.{◌≡◌, List, [], ◌∷◌, codes, Ok, Result, refl}
use Rattle.ids.specs.declared.refusal.Refusal.{Refusal}
use Rattle.semantics.specs.Ids.{OpId, id_at}
use Rattle.semantics.specs.Elements.{At}
use Rattle.semantics.specs.Operations.{Operation, Assign}
use Rattle.semantics.specs.Questions.{Get}
use Rattle.semantics.specs.Making.{Command, make}
use Rattle.semantics.specs.Replica.{Replica, operations, commit_own}
use Rattle.semantics.proofs.ExampleWords.{whole, assign, field, sent, new}

abbrev command : Command
command = assign (Get (codes "a") ∷ []) (whole 1)

abbrev id_made : Result Operation Refusal → List OpId
id_made (Ok o) = o.id ∷ []
id_made _ = []

-- the same id, as often as it is asked
first_id : id_made (make (operations (new 1)) 1 command) ≡ id_at 1 1 ∷ []
first_id = refl

-- and the next once the first is committed
abbrev committed : Replica
committed = commit_own (new 1) 0 1 command (sent 1 1 [] (At (field (codes "a"))) (Assign (whole 1)))

next_id : id_made (make (operations committed) 1 command) ≡ id_at 2 1 ∷ []
next_id = refl
