-- What a history has that a vector doesn't name.
use Rattle.std.specs.Prelude.{◌≡◌, List, [], ◌∷◌, codes, reverse, refl}
use Rattle.semantics.specs.Ids.{id_at}
use Rattle.semantics.specs.Elements.{At}
use Rattle.semantics.specs.Operations.{Assign}
use Rattle.semantics.specs.Vectors.{Vector}
use Rattle.semantics.specs.Stamped.{Stamped}
use Rattle.semantics.specs.Entries.{stamped_entries, missing}
use Rattle.semantics.proofs.ExampleWords.{text, field, sent}
use Rattle.semantics.proofs.ConcurrentAssigns.{first}

-- the oldest first
abbrev lacking : Vector → List Stamped
lacking v = reverse (missing v (stamped_entries first.entries))

abbrev a : Stamped
a = sent 1 1 [] (At (field (codes "key"))) (Assign (text (codes "A")))

abbrev b : Stamped
b = sent 2 1 (id_at 1 1 ∷ []) (At (field (codes "key"))) (Assign (text (codes "B")))

abbrev c : Stamped
c = sent 2 2 (id_at 1 1 ∷ []) (At (field (codes "key"))) (Assign (text (codes "C")))

-- a new replica lacks all
new_lacks : lacking [] ≡ a ∷ b ∷ c ∷ []
new_lacks = refl

-- one that has all lacks nothing
equal_lacks : lacking (id_at 2 1 ∷ id_at 2 2 ∷ []) ≡ []
equal_lacks = refl

-- one that has the first lacks the other two
older_lacks : lacking (id_at 1 1 ∷ []) ≡ b ∷ c ∷ []
older_lacks = refl
