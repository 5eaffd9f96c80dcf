-- What a version vector names in a history, and the sets that it stands for.
use Rattle.std.specs.Prelude.{◌≡◌, ◌≢◌, ℕ, ◌&&◌, ◌==◌, IsTrue, List, [], ◌∷◌}
use Rattle.semantics.specs.Ids.{OpId, IdSet, id_at}
use Rattle.semantics.specs.Operations.{Operation}
use Rattle.semantics.specs.LegalHistory.{has_id, greatest_of}
use Rattle.semantics.specs.Vectors.{Vector, at, covers, raise}

-- the greatest counter of a replica in the history, 0 where there is none
abbrev pub greatest_counter : List Operation → ℕ → ℕ
greatest_counter H p = greatest_of (λ a. a.replica == p) H

-- the vector of all that was applied; that of a legal history is canonical
abbrev pub vector_of : List Operation → Vector
vector_of [] = []
vector_of (o ∷ H) = raise o.id (vector_of H)

-- the ids of the history that v names: those that it covers
abbrev pub names : List Operation → Vector → IdSet
names H v a = has_id H a && covers v a

-- v names exactly the set in H, and each counter in v is that of an id of the set
pub record StandsFor (v : Vector) (S : IdSet) (H : List Operation) : Type 0 where
  pub same : (a : OpId) → S a ≡ names H v a
  pub attained : (p : ℕ) → at v p ≢ 0 → IsTrue (S (id_at (at v p) p))

-- each counter in v is that of an id in H
abbrev pub IsAttained : List Operation → Vector → Type 0
IsAttained H v = (p : ℕ) → at v p ≢ 0 → IsTrue (has_id H (id_at (at v p) p))

-- v names all that was applied
abbrev pub NamesAll : List Operation → Vector → Type 0
NamesAll H v = (p : ℕ) → at v p ≡ greatest_counter H p
