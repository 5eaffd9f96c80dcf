-- Commands and questions whose place is refused, in a new replica.
use Rattle.std.specs.Prelude.{◌≡◌, ℕ, zero, suc, List, [], ◌∷◌, ◌++◌, codes, refl}
use Rattle.ids.specs.declared.refusal.Refusal.TheVariants.{AtHead, PastEnd, NotInList, TooDeep}
use Rattle.semantics.specs.Ids.{id_at}
use Rattle.semantics.specs.Questions.{Step, Get, Idx, ById, Values, Keys, Items, Conflicts, Refused}
use Rattle.semantics.specs.Making.{Command}
use Rattle.semantics.specs.LegalAnswer.{Reply, Made, RefusedAt}
use Rattle.semantics.specs.WriteSteps.{reply_to}
use Rattle.semantics.proofs.ExampleWords.{whole, assign, insert, delete, new, item, answer}

abbrev replied : Command → Reply
replied c = reply_to (new 1) (item (new 1) c)

-- this many steps into maps
abbrev gets : ℕ → List Step
gets zero = []
gets (suc n) = Get (codes "a") ∷ gets n

-- no step leads on from the head of a list
step_from_head : replied (assign (Idx 0 ∷ Get (codes "a") ∷ []) (whole 1)) ≡ RefusedAt AtHead 0
step_from_head = refl

-- an insert goes into a list
insert_at_key : replied (insert (Get (codes "a") ∷ []) (whole 1)) ≡ RefusedAt NotInList 0
insert_at_key = refl

insert_at_root : replied (insert [] (whole 1)) ≡ RefusedAt NotInList 0
insert_at_root = refl

-- a head is neither deleted nor assigned
delete_head : replied (delete (Idx 0 ∷ [])) ≡ RefusedAt AtHead 0
delete_head = refl

assign_head : replied (assign (Idx 0 ∷ []) (whole 1)) ≡ RefusedAt AtHead 0
assign_head = refl

-- an absent list has no item
past_end : replied (assign (Get (codes "a") ∷ Idx 1 ∷ []) (whole 1)) ≡ RefusedAt PastEnd 0
past_end = refl

-- nor is there one with this id; a head is refused before that
unknown_item : replied (assign (Get (codes "a") ∷ ById (id_at 9 1) ∷ []) (whole 1)) ≡ RefusedAt PastEnd 0
unknown_item = refl

item_from_head : replied (assign (Idx 0 ∷ ById (id_at 9 1) ∷ []) (whole 1)) ≡ RefusedAt AtHead 0
item_from_head = refl

-- a path has 32 keys at most
too_deep : replied (assign (gets 33) (whole 1)) ≡ RefusedAt TooDeep 0
too_deep = refl

deepest : replied (assign (gets 32) (whole 1)) ≡ Made (id_at 1 1) 0
deepest = refl

-- at one step a path that is too deep is refused before an item that is absent
deep_before_end : replied (assign (gets 32 ++ Idx 1 ∷ []) (whole 1)) ≡ RefusedAt TooDeep 0
deep_before_end = refl

-- questions are refused alike, and at a head
question_past_head : answer (new 1) (Values (Idx 0 ∷ Get (codes "a") ∷ [])) ≡ Refused AtHead
question_past_head = refl

question_at_head : answer (new 1) (Items (Idx 0 ∷ [])) ≡ Refused AtHead
question_at_head = refl

question_too_deep : answer (new 1) (Keys (gets 33)) ≡ Refused TooDeep
question_too_deep = refl

question_past_end : answer (new 1) (Conflicts (Idx 1 ∷ [])) ≡ Refused PastEnd
question_past_end = refl
