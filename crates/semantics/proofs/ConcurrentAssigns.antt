-- Two replicas assign one field, each before it knows of the other's assign.
use Rattle.std.specs.Prelude.{◌≡◌, List, [], ◌∷◌, codes, refl}
use Rattle.semantics.specs.Ids.{id_at}
use Rattle.semantics.specs.Elements.{Text}
use Rattle.semantics.specs.Questions.{Step, Get, Values, AppliedVector, Answer, ValuesAre, VectorIs}
use Rattle.semantics.specs.Replica.{Replica}
use Rattle.semantics.proofs.ExampleWords.{text, assign, new, after_commands, after_bundle, history, answer, shown}

abbrev key : List Step
key = Get (codes "key") ∷ []

-- both hold the assign of "A" by replica 1
abbrev first_with_a : Replica
first_with_a = after_commands (new 1) (assign key (text (codes "A")) ∷ [])

abbrev second_with_a : Replica
second_with_a = after_bundle (new 2) first_with_a

-- then replica 1 assigns "B" and replica 2 assigns "C"
abbrev first_alone : Replica
first_alone = after_commands first_with_a (assign key (text (codes "B")) ∷ [])

abbrev second_alone : Replica
second_alone = after_commands second_with_a (assign key (text (codes "C")) ∷ [])

-- and each receives what it lacks
abbrev pub first : Replica
first = after_bundle first_alone second_alone

abbrev pub second : Replica
second = after_bundle second_alone first_alone

first_history : history first ≡ id_at 1 1 ∷ id_at 2 1 ∷ id_at 2 2 ∷ []
first_history = refl

second_history : history second ≡ id_at 1 1 ∷ id_at 2 2 ∷ id_at 2 1 ∷ []
second_history = refl

-- both values stand, in ascending order of id
abbrev both_values : Answer
both_values = ValuesAre ((id_at 2 1, Text (codes "B")) ∷ (id_at 2 2, Text (codes "C")) ∷ [])

first_values : answer first (Values key) ≡ both_values
first_values = refl

second_values : answer second (Values key) ≡ both_values
second_values = refl

shown_values : shown second (Values key) ≡ both_values
shown_values = refl

-- and the vector is the same, whatever came first
first_vector : answer first AppliedVector ≡ VectorIs (id_at 2 1 ∷ id_at 2 2 ∷ [])
first_vector = refl

second_vector : answer second AppliedVector ≡ VectorIs (id_at 2 1 ∷ id_at 2 2 ∷ [])
second_vector = refl
