-- Version vectors: for each replica the greatest counter that is named.
use Rattle.std.specs.Prelude.{◌≢◌, ℕ, ◌<◌, ◌≤◌, max, Bool, cond, ◌==◌, nat_le, nat_lt, ⊤, List, [], ◌∷◌, length}
use Rattle.std.specs.List.{list_all}
use Rattle.ids.specs.Ids.{OpId, IdSet, id_at}
use Rattle.ids.specs.Members.{is_member}

-- the ids that are named, as a rule at most one for each replica
abbrev pub Vector : Type 0
Vector = List OpId

-- the counter named for a replica, 0 where there is none
abbrev pub at : Vector → ℕ → ℕ
at [] p = 0
at (a ∷ v) p = cond (a.replica == p) (max a.counter (at v p)) (at v p)

-- the greatest counter that is named, 0 where there is none
abbrev pub greatest : Vector → ℕ
greatest [] = 0
greatest (a ∷ v) = max a.counter (greatest v)

-- the ids that v covers, held anywhere or not: a's counter is at most the one named for its replica
abbrev pub covers : Vector → IdSet
covers v a = nat_le a.counter (at v a.replica)

-- each counter of u is at most that of v
abbrev pub is_at_most : Vector → Vector → Bool
is_at_most u v = list_all (covers v) u

-- the vector in which a's replica has at least a's counter, with the replicas in ascending order
abbrev pub raise : OpId → Vector → Vector
raise a [] = a ∷ []
raise a (b ∷ v) =
    cond (nat_lt a.replica b.replica) (a ∷ b ∷ v)
    (cond (a.replica == b.replica) (id_at (max a.counter b.counter) b.replica ∷ v) (b ∷ raise a v))

-- each replica that is named is one of these
abbrev pub names_only : List ℕ → Vector → Bool
names_only ps v = list_all (λ a. is_member ps a.replica) v

-- each replica of the vector is below p
abbrev pub AreBelow : ℕ → Vector → Type 0
AreBelow p [] = ⊤
AreBelow p (a ∷ v) = (a.replica < p) × AreBelow p v

-- each replica of the vector is above p
abbrev pub AreAbove : ℕ → Vector → Type 0
AreAbove p [] = ⊤
AreAbove p (a ∷ v) = (p < a.replica) × AreAbove p v

-- the one form in which a vector is answered: replicas in ascending order, and no counter is 0
abbrev pub IsCanonical : Vector → Type 0
IsCanonical [] = ⊤
IsCanonical (a ∷ v) = (a.counter ≢ 0) × AreAbove a.replica v × IsCanonical v

-- the most replicas that a vector that is kept or sent names
abbrev pub most_named : ℕ
most_named = 256

-- a canonical vector of at most 256 replicas
pub record IsNamed (v : Vector) : Type 0 where
  pub canonical : IsCanonical v
  pub few : length v ≤ most_named
