-- What a received operation is tested for: first alone, then against the history.
use Rattle.std.specs.Prelude.{◌≡◌, ℕ, suc, Bool, true, false, not, ◌&&◌, ◌==◌, nat_le, nat_lt, IsTrue, List, Option, Some, None, is_some}
use Rattle.std.specs.List.{list_all, list_any}
use Rattle.semantics.specs.Ids.{OpId, id_at, is_same_id}
use Rattle.semantics.specs.Elements.{Element, Doc, Field, Item}
use Rattle.semantics.specs.Operations.{Operation, Misplaced, OutsideList, OnHead, element_of, inserted_after, misplaced}
use Rattle.ids.specs.declared.refusal.Refusal.{Refusal}
use Rattle.ids.specs.declared.refusal.Refusal.TheVariants.{NotInList, BadCounter, BrokenChain, NamesNothing, NotClosed}
use Rattle.ids.specs.declared.refusal.Refusal.TheVariants.{BadPlace}
use Rattle.semantics.specs.LegalHistory.{IsFormed, has_id}
use Rattle.semantics.specs.NamedIds.{greatest_counter}
use Rattle.semantics.specs.Vectors.{Vector, at, greatest, covers, is_at_most}
use Rattle.semantics.specs.Limits.{most_counter}
use Rattle.semantics.specs.Stamped.{Stamped, operations_of}

-- each id on the way down to e is covered
abbrev pub items_covered : Vector → Element → Bool
items_covered v Doc = true
items_covered v (Field e n) = items_covered v e
items_covered v (Item l a) = covers v a && items_covered v l

-- what can be seen of a lawful operation without any history
pub record StandsAlone (s : Stamped) : Type 0 where
  pub counter : s.id.counter ≡ suc (greatest s.vector)
  pub form : IsFormed s.mutation s.place
  pub covered : IsTrue (items_covered s.vector (element_of s.place))

-- the counter is 1 plus the greatest, and isn't past the last one
abbrev pub is_next_counter : (greatest counter : ℕ) → Bool
is_next_counter g counter = (counter == suc g) && nat_lt g most_counter

-- the counter is the one after the greatest of the vector
abbrev pub has_counter : Stamped → Bool
has_counter s = is_next_counter (greatest s.vector) s.id.counter

-- the first of these tests that fails: the counter, what may stand at the place, and the ids on the way to it
abbrev pub first_failed : Bool → Option Misplaced → Bool → Option Refusal
first_failed false c d = Some BadCounter
first_failed true (Some OutsideList) d = Some NotInList
first_failed true (Some OnHead) d = Some BadPlace
first_failed true None false = Some BadPlace
first_failed true None true = None

-- the first fault that can be seen of s alone
abbrev pub alone_fault : Stamped → Option Refusal
alone_fault s = first_failed (has_counter s) (misplaced s.mutation s.place) (items_covered s.vector (element_of s.place))

-- all that the vector names is at most what was applied
abbrev pub is_ready : List Operation → Stamped → Bool
is_ready H s = list_all (λ a. nat_le a.counter (greatest_counter H a.replica)) s.vector

-- the counter named for the sender isn't the greatest that was applied of it
abbrev pub breaks_chain : List Operation → Stamped → Bool
breaks_chain H s = not (at s.vector s.id.replica == greatest_counter H s.id.replica)

-- the counter named for p is that of no applied operation
abbrev pub is_of_nobody : List Operation → Vector → ℕ → Bool
is_of_nobody H v p = not (at v p == 0) && not (has_id H (id_at (at v p) p))

-- a counter in the vector is that of no applied operation
abbrev pub names_nothing : List Operation → Stamped → Bool
names_nothing H s = list_any (λ a. is_of_nobody H s.vector a.replica) s.vector

-- an operation whose counter is the one named for its replica has a vector that isn't at most this one
abbrev pub is_open : List Stamped → Vector → Bool
is_open G v = list_any (λ x. (x.id.counter == at v x.id.replica) && not (is_at_most x.vector v)) G

-- a is the id of an operation that inserted into the list at l
abbrev pub is_item_of : List Operation → Element → OpId → Bool
is_item_of H l a = list_any (λ x. is_same_id x.id a && is_some (inserted_after x l)) H

-- each item on the way down to e was inserted into that very list
abbrev pub items_were_inserted : List Operation → Element → Bool
items_were_inserted H Doc = true
items_were_inserted H (Field e n) = items_were_inserted H e
items_were_inserted H (Item l a) = is_item_of H l a && items_were_inserted H l

-- the first of these that holds
abbrev pub first_fault : Bool → Bool → Bool → Bool → Option Refusal
first_fault true b c d = Some BrokenChain
first_fault false true c d = Some NamesNothing
first_fault false false true d = Some NotClosed
first_fault false false false true = Some BadPlace
first_fault false false false false = None

-- the first fault of a ready operation against the history
abbrev pub fault_of : List Stamped → Stamped → Option Refusal
fault_of G s = first_fault (breaks_chain (operations_of G) s) (names_nothing (operations_of G) s) (is_open G s.vector)
    (not (items_were_inserted (operations_of G) (element_of s.place)))
