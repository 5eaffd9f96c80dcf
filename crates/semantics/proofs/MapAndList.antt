-- A map and a list under one key, and a map in a list.
use Rattle.std.specs.Prelude.{◌≡◌, List, [], ◌∷◌, codes, pos, refl}
use Rattle.semantics.specs.Ids.{id_at}
use Rattle.semantics.specs.Elements.{EmptyMap, EmptyList, Whole, AsMap, AsList}
use Rattle.semantics.specs.Questions.{Step, Get, Idx, Keys, Items, Values, Conflicts, Answer, KeysAre, ItemsAre, ValuesAre, ConflictsAre}
use Rattle.semantics.specs.Replica.{Replica}
use Rattle.semantics.proofs.ExampleWords.{assign, insert, whole, new, after_commands, after_bundle, history, answer, shown}

-- ---- a map and a list under one key

abbrev key : List Step
key = Get (codes "k") ∷ []

-- both hold the root as a map
abbrev first_with_root : Replica
first_with_root = after_commands (new 1) (assign [] EmptyMap ∷ [])

abbrev second_with_root : Replica
second_with_root = after_bundle (new 2) first_with_root

-- replica 1 assigns a map, replica 2 a list
abbrev first_alone : Replica
first_alone = after_commands first_with_root (assign key EmptyMap ∷ [])

abbrev second_alone : Replica
second_alone = after_commands second_with_root (assign key EmptyList ∷ [])

abbrev first : Replica
first = after_bundle first_alone second_alone

abbrev second : Replica
second = after_bundle second_alone first_alone

-- on both the key is a map and a list
abbrev map_and_list : Answer
map_and_list = ConflictsAre ((id_at 2 1, AsMap) ∷ (id_at 2 2, AsList) ∷ [])

first_conflicts : answer first (Conflicts key) ≡ map_and_list
first_conflicts = refl

second_conflicts : answer second (Conflicts key) ≡ map_and_list
second_conflicts = refl

shown_conflicts : shown first (Conflicts key) ≡ map_and_list
shown_conflicts = refl

-- ---- a map in a list

abbrev list : List Step
list = Get (codes "l") ∷ []

abbrev first_item : List Step
first_item = Get (codes "l") ∷ Idx 1 ∷ []

abbrev field_of_item : List Step
field_of_item = Get (codes "l") ∷ Idx 1 ∷ Get (codes "t") ∷ []

-- a list, a map inserted into it, and 7 in a field of the map
abbrev nested : Replica
nested = after_commands (new 1)
    (assign list EmptyList ∷ insert (Get (codes "l") ∷ Idx 0 ∷ []) EmptyMap ∷ assign field_of_item (whole 7) ∷ [])

nested_history : history nested ≡ id_at 1 1 ∷ id_at 2 1 ∷ id_at 3 1 ∷ []
nested_history = refl

nested_items : answer nested (Items list) ≡ ItemsAre (id_at 2 1 ∷ [])
nested_items = refl

nested_keys : answer nested (Keys first_item) ≡ KeysAre (codes "t" ∷ [])
nested_keys = refl

nested_values : answer nested (Values field_of_item) ≡ ValuesAre ((id_at 3 1, Whole (pos 7)) ∷ [])
nested_values = refl

-- each id stands on the whole way down, with the tag of what it enters there
item_conflicts : answer nested (Conflicts first_item) ≡ ConflictsAre ((id_at 2 1, AsMap) ∷ (id_at 3 1, AsMap) ∷ [])
item_conflicts = refl

list_conflicts : answer nested (Conflicts list) ≡ ConflictsAre ((id_at 1 1, AsList) ∷ (id_at 2 1, AsList) ∷ (id_at 3 1, AsList) ∷ [])
list_conflicts = refl

shown_item_conflicts : shown nested (Conflicts first_item) ≡ ConflictsAre ((id_at 2 1, AsMap) ∷ (id_at 3 1, AsMap) ∷ [])
shown_item_conflicts = refl

shown_list_conflicts : shown nested (Conflicts list) ≡ ConflictsAre ((id_at 1 1, AsList) ∷ (id_at 2 1, AsList) ∷ (id_at 3 1, AsList) ∷ [])
shown_list_conflicts = refl
