-- Two replicas insert two items each at the head of one list.
use Rattle.std.specs.Prelude.{◌≡◌, ℕ, List, [], ◌∷◌, codes, refl}
use Rattle.semantics.specs.Ids.{id_at}
use Rattle.semantics.specs.Elements.{Text, EmptyList}
use Rattle.semantics.specs.Questions.{Step, Get, Idx, Items, Values, Answer, ItemsAre, ValuesAre}
use Rattle.semantics.specs.Replica.{Replica}
use Rattle.semantics.proofs.ExampleWords.{text, assign, insert, new, after_commands, after_bundle, history, answer, shown}

abbrev list : List Step
list = Get (codes "l") ∷ []

abbrev nth : ℕ → List Step
nth n = Get (codes "l") ∷ Idx n ∷ []

-- both hold the empty list
abbrev first_empty : Replica
first_empty = after_commands (new 1) (assign list EmptyList ∷ [])

abbrev second_empty : Replica
second_empty = after_bundle (new 2) first_empty

-- replica 1 inserts x and y after it, replica 2 a and b after it
abbrev first_alone : Replica
first_alone = after_commands first_empty (insert (nth 0) (text (codes "x")) ∷ insert (nth 1) (text (codes "y")) ∷ [])

abbrev second_alone : Replica
second_alone = after_commands second_empty (insert (nth 0) (text (codes "a")) ∷ insert (nth 1) (text (codes "b")) ∷ [])

abbrev first : Replica
first = after_bundle first_alone second_alone

abbrev second : Replica
second = after_bundle second_alone first_alone

first_history : history first ≡ id_at 1 1 ∷ id_at 2 1 ∷ id_at 3 1 ∷ id_at 2 2 ∷ id_at 3 2 ∷ []
first_history = refl

second_history : history second ≡ id_at 1 1 ∷ id_at 2 2 ∷ id_at 3 2 ∷ id_at 2 1 ∷ id_at 3 1 ∷ []
second_history = refl

-- on both the items are a, b, x, y: neither pair is mixed with the other
abbrev four_items : Answer
four_items = ItemsAre (id_at 2 2 ∷ id_at 3 2 ∷ id_at 2 1 ∷ id_at 3 1 ∷ [])

first_items : answer first (Items list) ≡ four_items
first_items = refl

second_items : answer second (Items list) ≡ four_items
second_items = refl

shown_items : shown first (Items list) ≡ four_items
shown_items = refl

item_1 : answer first (Values (nth 1)) ≡ ValuesAre ((id_at 2 2, Text (codes "a")) ∷ [])
item_1 = refl

item_2 : answer first (Values (nth 2)) ≡ ValuesAre ((id_at 3 2, Text (codes "b")) ∷ [])
item_2 = refl

item_3 : answer second (Values (nth 3)) ≡ ValuesAre ((id_at 2 1, Text (codes "x")) ∷ [])
item_3 = refl

item_4 : answer second (Values (nth 4)) ≡ ValuesAre ((id_at 3 1, Text (codes "y")) ∷ [])
item_4 = refl
