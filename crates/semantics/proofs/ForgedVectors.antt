-- Deliveries that no replica could have made, and why each is refused.
use Rattle.std.specs.Prelude.{◌≡◌, ℕ, zero, suc, List, [], ◌∷◌, codes, refl}
use Rattle.ids.specs.declared.refusal.Refusal.TheVariants.{NotInList, UnknownReplica, BadCounter, BrokenChain, NotClosed, BadPlace, OwnName}
use Rattle.semantics.specs.Ids.{id_at}
use Rattle.semantics.specs.Elements.{Element, Item, At, HeadOf}
use Rattle.semantics.specs.Operations.{Assign, Insert, Delete}
use Rattle.semantics.specs.Vectors.{Vector}
use Rattle.semantics.specs.Stamped.{Stamped}
use Rattle.semantics.specs.Replica.{Replica}
use Rattle.semantics.specs.Delivery.{Kept, NotKept, answer_to}
use Rattle.semantics.proofs.ExampleWords.{text, field, sent, new}
use Rattle.semantics.proofs.ConcurrentAssigns.{first, second}

abbrev key : Element
key = field (codes "key")

abbrev deletes_key : ℕ → ℕ → Vector → Stamped
deletes_key c p v = sent c p v (At key) Delete

-- the numbers from n down to 1
abbrev numbers_to : ℕ → List ℕ
numbers_to zero = []
numbers_to (suc n) = suc n ∷ numbers_to n

-- a new replica 1 with 256 numbers in its table
abbrev crowded : Replica
crowded = record (new 1) { members = numbers_to 256 }

-- ---- to a new replica

-- the counter is one more than the greatest of the vector
wrong_counter : answer_to (new 1) (deletes_key 9 2 (id_at 7 1 ∷ [])) ≡ NotKept BadCounter
wrong_counter = refl

-- what a nonmember made is kept too, and what names a nonmember waits for it
new_sender : answer_to (new 1) (deletes_key 1 4 []) ≡ Kept
new_sender = refl

waits_for_new : answer_to (new 1) (deletes_key 8 2 (id_at 7 4 ∷ [])) ≡ Kept
waits_for_new = refl

-- unless the table has 256 numbers already
no_room : answer_to crowded (deletes_key 1 257 []) ≡ NotKept UnknownReplica
no_room = refl

member_of_many : answer_to crowded (deletes_key 1 256 []) ≡ Kept
member_of_many = refl

-- what isn't ready isn't tested for room
waits_without_room : answer_to crowded (deletes_key 8 257 (id_at 7 4 ∷ [])) ≡ Kept
waits_without_room = refl

-- ---- after two concurrent assigns of one field, which each depend on the assign before

-- the sender's own operations are one chain
broken_chain : answer_to second (deletes_key 3 1 (id_at 1 1 ∷ id_at 2 2 ∷ [])) ≡ NotKept BrokenChain
broken_chain = refl

-- what an operation depends on has dependencies too
not_closed : answer_to second (deletes_key 3 3 (id_at 2 2 ∷ [])) ≡ NotKept NotClosed
not_closed = refl

-- an item was inserted into the list where it is looked for
bad_item : answer_to second (sent 3 3 (id_at 2 1 ∷ id_at 2 2 ∷ []) (At (Item key (id_at 2 2))) (Assign (text (codes "x"))))
    ≡ NotKept BadPlace
bad_item = refl

-- only the replica itself makes operations of its own name
own_name : answer_to first (deletes_key 3 1 (id_at 2 1 ∷ id_at 2 2 ∷ [])) ≡ NotKept OwnName
own_name = refl

-- ---- several faults at once, to a new replica: the first decides

abbrev a : Element
a = field (codes "a")

-- the counter before the insert at a key
counter_before_list : answer_to (new 1) (sent 9 2 (id_at 7 1 ∷ []) (At a) (Insert (text (codes "x")))) ≡ NotKept BadCounter
counter_before_list = refl

list_alone : answer_to (new 1) (sent 1 2 [] (At a) (Insert (text (codes "x")))) ≡ NotKept NotInList
list_alone = refl

-- an item that the vector doesn't cover
place_alone : answer_to (new 1) (sent 2 2 (id_at 1 1 ∷ []) (At (Item a (id_at 5 1))) Delete) ≡ NotKept BadPlace
place_alone = refl

-- a delete at a head
head_alone : answer_to (new 1) (sent 1 2 [] (HeadOf a) Delete) ≡ NotKept BadPlace
head_alone = refl

-- the counter before the own name
counter_before_name : answer_to (new 1) (sent 3 1 (id_at 1 1 ∷ []) (At a) Delete) ≡ NotKept BadCounter
counter_before_name = refl

name_alone : answer_to (new 1) (sent 1 1 [] (At a) Delete) ≡ NotKept OwnName
name_alone = refl
