-- An item is deleted by one replica while the other writes it.
use Rattle.std.specs.Prelude.{◌≡◌, [], ◌∷◌, codes, refl}
use Rattle.ids.specs.declared.refusal.Refusal.TheVariants.{PastEnd}
use Rattle.semantics.specs.Ids.{id_at}
use Rattle.semantics.specs.Elements.{Text, AsRegister}
use Rattle.semantics.specs.Questions.{Items, Values, Conflicts, Answer, ItemsAre, ValuesAre, ConflictsAre, Refused}
use Rattle.semantics.specs.Replica.{Replica}
use Rattle.semantics.proofs.ExampleWords.{text, assign, delete, new, after_commands, after_bundle, history, answer, shown}
use Rattle.semantics.proofs.ShoppingList.{shopping, nth, list}

-- replica 1 deletes its second item
abbrev deleted : Replica
deleted = after_commands list (delete (nth 2) ∷ [])

deleted_items : answer deleted (Items shopping) ≡ ItemsAre (id_at 4 1 ∷ id_at 5 1 ∷ [])
deleted_items = refl

deleted_second : answer deleted (Values (nth 2)) ≡ ValuesAre ((id_at 5 1, Text (codes "milk")) ∷ [])
deleted_second = refl

-- there is no third item any more
deleted_third : answer deleted (Values (nth 3)) ≡ Refused PastEnd
deleted_third = refl

-- replica 2 has the list, and assigns its second item
abbrev assigned : Replica
assigned = after_commands (after_bundle (new 2) list) (assign (nth 2) (text (codes "ham")) ∷ [])

-- both receive what they lack: the item is there, with what was assigned
abbrev first : Replica
first = after_bundle deleted assigned

abbrev second : Replica
second = after_bundle assigned deleted

first_history : history first ≡ id_at 1 1 ∷ id_at 2 1 ∷ id_at 3 1 ∷ id_at 4 1 ∷ id_at 5 1 ∷ id_at 6 1 ∷ id_at 6 2 ∷ []
first_history = refl

second_history : history second ≡ id_at 1 1 ∷ id_at 2 1 ∷ id_at 3 1 ∷ id_at 4 1 ∷ id_at 5 1 ∷ id_at 6 2 ∷ id_at 6 1 ∷ []
second_history = refl

abbrev three_items : Answer
three_items = ItemsAre (id_at 4 1 ∷ id_at 3 1 ∷ id_at 5 1 ∷ [])

first_items : answer first (Items shopping) ≡ three_items
first_items = refl

second_items : answer second (Items shopping) ≡ three_items
second_items = refl

shown_items : shown second (Items shopping) ≡ three_items
shown_items = refl

abbrev ham : Answer
ham = ValuesAre ((id_at 6 2, Text (codes "ham")) ∷ [])

first_second : answer first (Values (nth 2)) ≡ ham
first_second = refl

second_second : answer second (Values (nth 2)) ≡ ham
second_second = refl

shown_second : shown first (Values (nth 2)) ≡ ham
shown_second = refl

first_conflicts : answer first (Conflicts (nth 2)) ≡ ConflictsAre ((id_at 6 2, AsRegister) ∷ [])
first_conflicts = refl
