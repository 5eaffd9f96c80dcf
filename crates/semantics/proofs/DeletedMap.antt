-- A map is deleted by one replica while the other writes a field of it.
use Rattle.std.specs.Prelude.{◌≡◌, List, [], ◌∷◌, codes, refl}
use Rattle.semantics.specs.Ids.{id_at}
use Rattle.semantics.specs.Elements.{Text, EmptyMap, AsMap}
use Rattle.semantics.specs.Questions.{Step, Get, Keys, Values, Conflicts, KeysAre, ValuesAre, ConflictsAre}
use Rattle.semantics.specs.Replica.{Replica}
use Rattle.semantics.proofs.ExampleWords.{text, assign, delete, new, after_commands, after_bundle, history, answer, shown}

abbrev colors : List Step
colors = Get (codes "colors") ∷ []

abbrev blue : List Step
blue = Get (codes "colors") ∷ Get (codes "blue") ∷ []

abbrev green : List Step
green = Get (codes "colors") ∷ Get (codes "green") ∷ []

-- both hold a map with the field blue
abbrev first_with_blue : Replica
first_with_blue = after_commands (new 1) (assign colors EmptyMap ∷ assign blue (text (codes "#00f")) ∷ [])

abbrev second_with_blue : Replica
second_with_blue = after_bundle (new 2) first_with_blue

-- replica 1 deletes the map, replica 2 assigns the field green
abbrev first_alone : Replica
first_alone = after_commands first_with_blue (delete colors ∷ [])

abbrev second_alone : Replica
second_alone = after_commands second_with_blue (assign green (text (codes "#0f0")) ∷ [])

abbrev first : Replica
first = after_bundle first_alone second_alone

abbrev second : Replica
second = after_bundle second_alone first_alone

first_history : history first ≡ id_at 1 1 ∷ id_at 2 1 ∷ id_at 3 1 ∷ id_at 3 2 ∷ []
first_history = refl

second_history : history second ≡ id_at 1 1 ∷ id_at 2 1 ∷ id_at 3 2 ∷ id_at 3 1 ∷ []
second_history = refl

-- the map is still there, with what the delete didn't know of
first_root : answer first (Keys []) ≡ KeysAre (codes "colors" ∷ [])
first_root = refl

second_root : answer second (Keys []) ≡ KeysAre (codes "colors" ∷ [])
second_root = refl

first_keys : answer first (Keys colors) ≡ KeysAre (codes "green" ∷ [])
first_keys = refl

second_keys : answer second (Keys colors) ≡ KeysAre (codes "green" ∷ [])
second_keys = refl

shown_keys : shown first (Keys colors) ≡ KeysAre (codes "green" ∷ [])
shown_keys = refl

first_green : answer first (Values green) ≡ ValuesAre ((id_at 3 2, Text (codes "#0f0")) ∷ [])
first_green = refl

second_green : answer second (Values green) ≡ ValuesAre ((id_at 3 2, Text (codes "#0f0")) ∷ [])
second_green = refl

first_conflicts : answer first (Conflicts colors) ≡ ConflictsAre ((id_at 3 2, AsMap) ∷ [])
first_conflicts = refl

second_conflicts : answer second (Conflicts colors) ≡ ConflictsAre ((id_at 3 2, AsMap) ∷ [])
second_conflicts = refl

shown_conflicts : shown second (Conflicts colors) ≡ ConflictsAre ((id_at 3 2, AsMap) ∷ [])
shown_conflicts = refl
