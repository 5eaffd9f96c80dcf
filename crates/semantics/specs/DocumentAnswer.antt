-- The answers that the document gives.
use Rattle.std.specs.Prelude.{Bool, true, false, List, [], ◌∷◌, map}
use Rattle.std.specs.List.{filter}
use Rattle.semantics.specs.Ids.{OpId}
use Rattle.semantics.specs.Elements.{Element, Field, Item, Name}
use Rattle.semantics.specs.Operations.{Operation}
use Rattle.semantics.specs.Context.{Context, doc}
use Rattle.semantics.specs.NamedIds.{vector_of}
use Rattle.semantics.specs.Questions.{Question, Values, Keys, Items, Conflicts, AppliedVector, Answer, ValuesAre, KeysAre, ItemsAre}
use Rattle.semantics.specs.Questions.{Lists, ConflictsAre, VectorIs, resolve, answer_at}

-- the list is not empty
abbrev pub is_any : {X : Type 0} → List X → Bool
is_any [] = false
is_any (x ∷ xs) = true

-- the items of the list at l whose presence isn't empty, in list order
abbrev pub visible_items : Context → Element → List OpId
visible_items C l = filter (λ a. is_any (C.presence (Item l a))) (C.order l)

-- the names of the map's fields whose presence isn't empty, in byte order
abbrev pub visible_names : Context → Element → List Name
visible_names C e = filter (λ n. is_any (C.presence (Field e n))) (map (λ x. x.0) (C.fields e))

-- the items of each list that it shows, and all that it ever had
abbrev pub lists_of : Context → Lists
lists_of C = record { shown = visible_items C; all = C.order }

-- the answer to a question in the document of H
abbrev pub document_answer : List Operation → Question → Answer
document_answer H (Values x) = answer_at (λ e. ValuesAre ((doc H).register e)) (resolve (lists_of (doc H)) x)
document_answer H (Keys x) = answer_at (λ e. KeysAre (visible_names (doc H) e)) (resolve (lists_of (doc H)) x)
document_answer H (Items x) = answer_at (λ e. ItemsAre (visible_items (doc H) e)) (resolve (lists_of (doc H)) x)
document_answer H (Conflicts x) = answer_at (λ e. ConflictsAre ((doc H).presence e)) (resolve (lists_of (doc H)) x)
document_answer H AppliedVector = VectorIs (vector_of H)
