-- Operations as they are kept and sent: stamped with a vector in place of the set of what they depend on.
use Rattle.std.specs.Prelude.{◌≡◌, ◌↔◌, ◌&&◌, ⊤, List, [], ◌∷◌, map}
use Rattle.std.specs.List.{list_any}
use Rattle.semantics.specs.Ids.{OpId, is_same_id}
use Rattle.semantics.specs.Elements.{Place}
use Rattle.semantics.specs.Operations.{Operation, Mutation}
use Rattle.semantics.specs.LegalHistory.{IsAmong, Follows}
use Rattle.semantics.specs.Vectors.{Vector, covers}
use Rattle.semantics.specs.NamedIds.{names, IsAttained}

-- an operation with the version vector of what it depends on
pub record Stamped : Type 0 where
  pub id : OpId
  pub vector : Vector
  pub place : Place
  pub mutation : Mutation

-- the operation that a stamped one is after H: it depends on what its vector names there
abbrev pub operation_after : List Operation → Stamped → Operation
operation_after H s = record { id = s.id; deps = names H s.vector; place = s.place; mutation = s.mutation }

-- the operations of a history that is kept by vectors, each after those before it
abbrev pub operations_of : List Stamped → List Operation
operations_of [] = []
operations_of (s ∷ G) = operation_after (operations_of G) s ∷ operations_of G

-- s may follow H: each counter in its vector is that of an id there, and what it is there may follow
pub record MayFollow (H : List Operation) (s : Stamped) : Type 0 where
  pub attained : IsAttained H s.vector
  pub follows : Follows H (operation_after H s)

-- each stamped operation may follow those before it
abbrev pub IsLegalStamped : List Stamped → Type 0
IsLegalStamped [] = ⊤
IsLegalStamped (s ∷ G) = IsLegalStamped G × MayFollow (operations_of G) s

-- o stands in H and is what s means there
pub record Means (H : List Operation) (s : Stamped) (o : Operation) : Type 0 where
  pub among : IsAmong o H
  pub id : o.id ≡ s.id
  pub place : o.place ≡ s.place
  pub mutation : o.mutation ≡ s.mutation
  pub deps : (a : OpId) → o.deps a ≡ names H s.vector a
  pub attained : IsAttained H s.vector

-- the operation that s is in a set: it depends on the ids of the set that its vector covers, whatever the order of the list
abbrev pub operation_among : List Stamped → Stamped → Operation
operation_among O s = record {
  id = s.id;
  deps = λ a. list_any (λ t. is_same_id t.id a) O
      && covers s.vector a;
  place = s.place;
  mutation = s.mutation;
}

-- the operations of a set of stamped ones
abbrev pub operations_among : List Stamped → List Operation
operations_among O = map (operation_among O) O

-- the same stamped operations, in any order and any number of times
abbrev pub HaveSameStamped : List Stamped → List Stamped → Type 0
HaveSameStamped O P = (s : Stamped) → IsAmong s O ↔ IsAmong s P

-- what is applied where the history isn't at hand: all that the vector covers counts as a dependency
abbrev pub loose_operation : Stamped → Operation
loose_operation s = record { id = s.id; deps = covers s.vector; place = s.place; mutation = s.mutation }
