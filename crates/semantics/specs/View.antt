-- The answers from the operations as a set: the order of the list doesn't matter.
use Rattle.std.specs.Prelude.{Bool, cond, not, ◌&&◌, List, [], ◌∷◌, ◌++◌, map, Option, Some, None, is_some}
use Rattle.std.specs.List.{filter, list_all, list_any}
use Rattle.std.specs.declared.cmp.Ordering.{Ordering}
use Rattle.std.specs.FinMap.{find}
use Rattle.semantics.specs.Ids.{OpId, id_cmp, falling_cmp, is_same_id, is_smaller_id}
use Rattle.semantics.specs.Elements.{Element, Field, Item, Scalar, Tag, Name}
use Rattle.semantics.specs.Operations.{Operation, empties, tag_given, scalar_given, name_given, inserted_after}
use Rattle.semantics.specs.Context.{put_some, put_name}
use Rattle.semantics.specs.Questions.{Question, Values, Keys, Items, Conflicts, AppliedVector, Answer, ValuesAre, KeysAre, ItemsAre}
use Rattle.semantics.specs.Questions.{Lists, ConflictsAre, VectorIs, resolve, answer_at}
use Rattle.semantics.specs.DocumentAnswer.{is_any}
use Rattle.semantics.specs.NamedIds.{vector_of}

-- what the operations give, by their ids, in the order R
abbrev pub collect : {X : Type 0} → (OpId → OpId → Ordering) → (Operation → Option X) → List Operation → List (OpId × X)
collect R given [] = []
collect R given (o ∷ O) = put_some R o.id (given o) (collect R given O)

-- the ids of the operations that aren't deletes and reach e, with their tags
abbrev pub reached : List Operation → Element → List (OpId × Tag)
reached O e = collect id_cmp (λ o. tag_given o e) O

-- a is in the deps of no operation that empties e
abbrev pub stays : List Operation → Element → OpId → Bool
stays O e a = list_all (λ o. not (empties o e && o.deps a)) O

-- the ids that reach e and stay, with their tags
abbrev pub live : List Operation → Element → List (OpId × Tag)
live O e = filter (λ x. stays O e x.0) (reached O e)

-- a is live at e
abbrev pub is_live : List Operation → Element → OpId → Bool
is_live O e a = is_some (find id_cmp a (live O e))

-- the scalars written at e whose ids are live there
abbrev pub live_scalars : List Operation → Element → List (OpId × Scalar)
live_scalars O e = filter (λ x. is_live O e x.0) (collect id_cmp (λ o. scalar_given o e) O)

-- the names of the fields of e that an operation other than a delete reaches
abbrev pub field_names : List Operation → Element → List (Name × Unit {0})
field_names [] e = []
field_names (o ∷ O) e = put_name (name_given o e) (field_names O e)

-- the names of the fields at which an id is live
abbrev pub live_names : List Operation → Element → List Name
live_names O e = filter (λ n. is_any (live O (Field e n))) (map (λ x. x.0) (field_names O e))

-- the inserts into the list at l with what each was inserted after, the greatest id first
abbrev pub inserts : List Operation → Element → List (OpId × Option OpId)
inserts O l = collect falling_cmp (λ o. inserted_after o l) O

-- trees side by side: the first tree's root, what stands beneath it, and the trees next to it
pub data Forest : Type 0 where
  Bare : Forest
  Tree : OpId → Forest → Forest → Forest

-- each root, then what stands beneath it, then the trees next to it
abbrev pub preorder : Forest → List OpId
preorder Bare = []
preorder (Tree a beneath next) = a ∷ (preorder beneath ++ preorder next)

-- a stands among the roots, which fall
abbrev pub among_siblings : OpId → Forest → Forest
among_siblings a Bare = Tree a Bare Bare
among_siblings a (Tree b beneath next) = cond (is_smaller_id b a) (Tree a Bare (Tree b beneath next))
    (Tree b beneath (among_siblings a next))

-- a stands right beneath p; where p isn't there nothing changes
abbrev pub beneath_node : OpId → OpId → Forest → Forest
beneath_node p a Bare = Bare
beneath_node p a (Tree b beneath next) =
    cond (is_same_id p b) (Tree b (among_siblings a beneath) next)
    (cond (list_any (is_same_id p) (preorder beneath)) (Tree b (beneath_node p a beneath) next) (Tree b beneath (beneath_node p a next)))

-- a stands among the roots, or right beneath p
abbrev pub graft : Option OpId → OpId → Forest → Forest
graft None a F = among_siblings a F
graft (Some p) a F = beneath_node p a F

-- each beneath what it was inserted after; an item's id is greater than that one's, so the smallest come first
abbrev pub tree_of : List (OpId × Option OpId) → Forest
tree_of [] = Bare
tree_of (e ∷ es) = graft e.1 e.0 (tree_of es)

-- the order of the list at l: a walk through the tree of its inserts
abbrev pub order : List Operation → Element → List OpId
order O l = preorder (tree_of (inserts O l))

-- the items of the list at l at which an id is live
abbrev pub live_items : List Operation → Element → List OpId
live_items O l = filter (λ a. is_any (live O (Item l a))) (order O l)

-- the items of each list at which an id is live, and all that were inserted
abbrev pub live_lists : List Operation → Lists
live_lists O = record { shown = live_items O; all = order O }

-- the answer to a question from the operations as a set
abbrev pub view : List Operation → Question → Answer
view O (Values x) = answer_at (λ e. ValuesAre (live_scalars O e)) (resolve (live_lists O) x)
view O (Keys x) = answer_at (λ e. KeysAre (live_names O e)) (resolve (live_lists O) x)
view O (Items x) = answer_at (λ e. ItemsAre (live_items O e)) (resolve (live_lists O) x)
view O (Conflicts x) = answer_at (λ e. ConflictsAre (live O e)) (resolve (live_lists O) x)
view O AppliedVector = VectorIs (vector_of O)
