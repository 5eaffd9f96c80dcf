-- What the rules refuse is never refused because an allocation failed or for its floor, so such items change nothing.
use Rattle.std.proofs.Common.{◌≡◌, inl, inr, ℕ, zero, suc, ◌<◌, Bool, true, false, cond, ◌||◌, ◌==◌, nat_lt, nat_le, List, [], ◌∷◌, length}
use Rattle.std.proofs.Common.{Option, Some, None, Result, Ok, Err, refl, sym, ap, ◌∙◌, subst, arith, true≢false, slice_get}
use Rattle.std.specs.Bool.{⊤}
use Rattle.std.proofs.lemmas.Bool.{ltb-true, ltb-false}
use Rattle.ids.specs.Tables.{lacks_room}
use Rattle.ids.specs.declared.refusal.Refusal.{Refusal}
use Rattle.ids.specs.declared.refusal.Refusal.TheVariants.{NoMemory, BadFloor, UnknownReplica, OwnName, HistoryFull, InboxFull, TooDeep}
use Rattle.ids.specs.declared.refusal.Refusal.TheVariants.{PastEnd}
use Rattle.semantics.specs.Ids.{OpId}
use Rattle.semantics.specs.Elements.{Element, Doc, Field, Item, Place, At, HeadOf, depth}
use Rattle.semantics.specs.Operations.{Operation, Mutation, Assign, Insert, Delete, Misplaced, OutsideList, OnHead, misplaced}
use Rattle.semantics.specs.Questions.{Step, Get, Idx, ById, Lists, item_at, enter, step_from, walk_from, resolve}
use Rattle.semantics.specs.Context.{doc, has_item}
use Rattle.semantics.specs.DocumentAnswer.{lists_of}
use Rattle.semantics.specs.LegalHistory.{has_id}
use Rattle.semantics.specs.Stamped.{Stamped}
use Rattle.semantics.specs.Faults.{first_failed, first_fault, alone_fault, fault_of, is_ready}
use Rattle.semantics.specs.Making.{Command, is_full, place_unless, then_place, operation_at, make}
use Rattle.semantics.specs.Entries.{stamped_entries}
use Rattle.semantics.specs.Joining.{table_with, check_fault}
use Rattle.semantics.specs.LegalAnswer.{Request, OfCommand, OfPeer, Submitted, Reply, Made, RefusedAt, KeptAt, KnownAt}
use Rattle.semantics.specs.Replica.{Replica, operations}
use Rattle.semantics.specs.Delivery.{Delivered, Kept, Known, NotKept, is_waiting, kept_unless, room_answer, answer_after, answer_to}
use Rattle.semantics.specs.Drain.{receive}
use Rattle.semantics.specs.WriteSteps.{reply_made, reply_delivered, reply_requested, reply_to, after_request, after_submission}
use Rattle.semantics.specs.Handling.{Handler, still_behind, is_outside_rules, Handles}

abbrev FineFault : Option Refusal → Type 0
FineFault None = ⊤
FineFault (Some f) = is_outside_rules f ≡ false

abbrev FineAnswer : Delivered → Type 0
FineAnswer Kept = ⊤
FineAnswer Known = ⊤
FineAnswer (NotKept f) = is_outside_rules f ≡ false

abbrev FineResult : {X : Type 0} → Result X Refusal → Type 0
FineResult (Ok x) = ⊤
FineResult (Err f) = is_outside_rules f ≡ false

alone_fine : (b : Bool) (c : Option Misplaced) (d : Bool) → FineFault (first_failed b c d)
alone_fine false c d = refl
alone_fine true (Some OutsideList) d = refl
alone_fine true (Some OnHead) d = refl
alone_fine true None false = refl
alone_fine true None true = tt

fault_fine : (a b c d : Bool) → FineFault (first_fault a b c d)
fault_fine true b c d = refl
fault_fine false true c d = refl
fault_fine false false true d = refl
fault_fine false false false true = refl
fault_fine false false false false = tt

check_fine : (ms : List ℕ) (F : List Stamped) (s : Stamped) → FineFault (check_fault ms F s)
check_fine ms F s = elim (lacks_room (table_with ms F) s.id.replica) as (λ b. FineFault (cond b (Some UnknownReplica) (fault_of F s))) [
  | true ↦ refl
  | false ↦ fault_fine _ _ _ _
]

kept_fine : (o : Option Refusal) → FineFault o → FineAnswer (kept_unless o)
kept_fine None f = tt
kept_fine (Some e) f = f

cond_fine : (b : Bool) (x y : Delivered) → FineAnswer x → FineAnswer y → FineAnswer (cond b x y)
cond_fine true x y f g = f
cond_fine false x y f g = g

room_fine : (r : Replica) (s : Stamped) → FineAnswer (room_answer r s)
room_fine r s =
    cond_fine (is_ready (operations r) s) _ _
    (cond_fine (nat_lt 4096 (length r.waiting)) (NotKept InboxFull) (kept_unless (check_fault r.members (stamped_entries r.entries) s)) refl
    (kept_fine (check_fault r.members (stamped_entries r.entries) s) (check_fine r.members (stamped_entries r.entries) s)))
    (cond_fine (nat_lt 4095 (length r.waiting)) (NotKept InboxFull) Kept refl tt)

after_fine : (r : Replica) (s : Stamped) (o : Option Refusal) → FineFault o → FineAnswer (answer_after r s o)
after_fine r s (Some f) k = k
after_fine r s None k =
    cond_fine (has_id (operations r) s.id || is_waiting r.waiting s.id) Known _ tt
    (cond_fine (s.id.replica == r.own) (NotKept OwnName) _ refl
    (cond_fine (is_full r.entries) (NotKept HistoryFull) (room_answer r s) refl (room_fine r s)))

pub answer_fine : (r : Replica) (s : Stamped) → FineAnswer (answer_to r s)
answer_fine r s = after_fine r s (alone_fault s) (alone_fine _ _ _)

-- ---- what is made

item_fine : (e : Element) (o : Option OpId) → FineResult (item_at e o)
item_fine e None = refl
item_fine e (Some a) = tt

result_cond : {X : Type 0} (b : Bool) (x y : Result X Refusal) → FineResult x → FineResult y → FineResult (cond b x y)
result_cond true x y f g = f
result_cond false x y f g = g

enter_fine : (lists : Lists) (e : Element) (s : Step) → FineResult (enter lists e s)
enter_fine lists e (Get n) = tt
enter_fine lists e (Idx zero) = tt
enter_fine lists e (Idx (suc i)) = item_fine e (slice_get (lists.shown e) i)
enter_fine lists e (ById a) = result_cond (has_item a (lists.all e)) (Ok (At (Item e a))) (Err PastEnd) tt refl

step_fine : (lists : Lists) (p : Place) (s : Step) → FineResult (step_from lists p s)
step_fine lists (HeadOf l) s = refl
step_fine lists (At e) s = result_cond (nat_le 32 (depth e)) (Err TooDeep) (enter lists e s) refl (enter_fine lists e s)

walk_fine : (lists : Lists) (steps : List Step) (r : Result Place Refusal) → FineResult r → FineResult (walk_from lists steps r)
walk_fine lists [] (Err e) f = f
walk_fine lists (s ∷ steps) (Err e) f = f
walk_fine lists [] (Ok p) f = tt
walk_fine lists (s ∷ steps) (Ok p) f = walk_fine lists steps (step_from lists p s) (step_fine lists p s)

place_fine : (m : Mutation) (p : Place) → FineResult (place_unless (misplaced m p) p)
place_fine (Insert v) (HeadOf l) = tt
place_fine (Insert v) (At (Item l a)) = tt
place_fine (Insert v) (At Doc) = refl
place_fine (Insert v) (At (Field e n)) = refl
place_fine (Assign v) (At e) = tt
place_fine (Assign v) (HeadOf l) = refl
place_fine Delete (At e) = tt
place_fine Delete (HeadOf l) = refl

then_fine : (m : Mutation) (r : Result Place Refusal) → FineResult r → FineResult (then_place m r)
then_fine m (Err e) f = f
then_fine m (Ok p) f = place_fine m p

at_fine : (H : List Operation) (p : ℕ) (m : Mutation) (r : Result Place Refusal) → FineResult r → FineResult (operation_at H p m r)
at_fine H p m (Err e) f = f
at_fine H p m (Ok x) f = tt

pub make_fine : (H : List Operation) (p : ℕ) (c : Command) → FineResult (make H p c)
make_fine H p c =
    result_cond (is_full H) (Err HistoryFull) _ refl
    (at_fine H p c.mutation _
    (then_fine c.mutation (resolve (lists_of (doc H)) c.expression)
    (walk_fine (lists_of (doc H)) c.expression (Ok (At Doc)) tt)))

-- ---- replies

abbrev FineReply : Reply → Type 0
FineReply (Made a n) = ⊤
FineReply (RefusedAt e m) = is_outside_rules e ≡ false
FineReply (KeptAt m) = ⊤
FineReply (KnownAt m) = ⊤

made_fine : (r : Replica) (m : Result Operation Refusal) → FineResult m → FineReply (reply_made r m)
made_fine r (Err e) f = f
made_fine r (Ok o) f = tt

delivered_fine : (m : ℕ) (d : Delivered) → FineAnswer d → FineReply (reply_delivered m d)
delivered_fine m Kept f = tt
delivered_fine m Known f = tt
delivered_fine m (NotKept e) f = f

requested_fine : (r : Replica) (q : Request) → FineReply (reply_requested r q)
requested_fine r (OfCommand c) = made_fine r (make (operations r) r.own c) (make_fine (operations r) r.own c)
requested_fine r (OfPeer s) = delivered_fine (length (receive r s).entries) (answer_to r s) (answer_fine r s)

-- ---- items

-- a reply that names a failed allocation or the floor, and no other cause
no_rule : (y : Reply) (e : Refusal) (m : ℕ) → y ≡ RefusedAt e m → is_outside_rules e ≡ true → FineReply y → ⊥
no_rule y e m is t f = true≢false (sym t ∙ subst FineReply is f)

same_refusal : (e f : Refusal) (m n : ℕ) → RefusedAt e m ≡ RefusedAt f n → e ≡ f
same_refusal e f m n is = cc

floor_only : BadFloor ≡ NoMemory → ⊥
floor_only e = cc

tested_reply : (w : Handler) (x : Submitted) (b : Bool) → nat_lt (length w.replica.entries) x.floor ≡ b
    → reply_to w.replica x ≡ cond b (RefusedAt BadFloor (length w.replica.entries)) (reply_requested w.replica x.request)
tested_reply w x b is = ap (λ c. cond c (RefusedAt BadFloor (length w.replica.entries)) (reply_requested w.replica x.request)) is

tested_replica : (w : Handler) (x : Submitted) (b : Bool) → nat_lt (length w.replica.entries) x.floor ≡ b
    → after_submission w.replica x ≡ cond b w.replica (after_request w.replica x x.request)
tested_replica w x b is = ap (λ c. cond c w.replica (after_request w.replica x x.request)) is

tested_behind : (w : Handler) (x : Submitted) → nat_lt (length w.replica.entries) x.floor ≡ true → still_behind w x ≡ w.behind
tested_behind w x is = rw is refl

-- an item that is refused because an allocation failed or for its floor changes nothing
pub nothing_changes : (w v : Handler) (x : Submitted) (e : Refusal) (m : ℕ) → is_outside_rules e ≡ true → Handles w x (RefusedAt e m) v
    → v ≡ w
nothing_changes w v x e m t (inl k) = by (nat_lt (length w.replica.entries) x.floor) refl
  where
    by : (b : Bool) → nat_lt (length w.replica.entries) x.floor ≡ b → v ≡ w
    by true is = (λ i. record { replica = (k.replica ∙ tested_replica w x true is) i; behind = (k.behind ∙ tested_behind w x is) i })
    by false is = absurd
        (no_rule (reply_requested w.replica x.request) e m (sym (k.reply ∙ tested_reply w x false is)) t
        (requested_fine w.replica x.request))
nothing_changes w v x e m t (inr (inl k)) = k.same
nothing_changes w v x e m t (inr (inr k)) = absurd
    (no_rule (reply_delivered (length v.replica.entries) (answer_to w.replica k.stamped)) e m (sym k.reply) t
    (delivered_fine (length v.replica.entries) (answer_to w.replica k.stamped) (answer_fine w.replica k.stamped)))

-- an item is refused for its floor exactly where that is above the history
pub floors_exactly : (w v : Handler) (x : Submitted) (y : Reply) → Handles w x y v
    → (length w.replica.entries < x.floor → y ≡ RefusedAt BadFloor (length w.replica.entries))
    × ((m : ℕ) → y ≡ RefusedAt BadFloor m → length w.replica.entries < x.floor)
floors_exactly w v x y (inl k) = by (nat_lt (length w.replica.entries) x.floor) refl
  where
    by : (b : Bool) → nat_lt (length w.replica.entries) x.floor ≡ b
        → (length w.replica.entries < x.floor → y ≡ RefusedAt BadFloor (length w.replica.entries))
        × ((m : ℕ) → y ≡ RefusedAt BadFloor m → length w.replica.entries < x.floor)
    by true is = (λ l. k.reply ∙ tested_reply w x true is, λ m e. ltb-true (length w.replica.entries) x.floor is)
    by false is = (
      λ l. absurd (let g = ltb-false (length w.replica.entries) x.floor is in omega (arith, l, g)),
      λ m e. absurd
          (no_rule (reply_requested w.replica x.request) BadFloor m (sym (k.reply ∙ tested_reply w x false is) ∙ e) refl
          (requested_fine w.replica x.request)),
    )
floors_exactly w v x y
    (inr (inl k)) = (
      λ l. absurd (omega (arith, l, k.floor)),
      λ m e. absurd
          (floor_only (sym (same_refusal NoMemory BadFloor (length w.replica.entries) m (sym k.reply ∙ e)))),
    )
floors_exactly w v x y (inr (inr k)) = (
  λ l. absurd (omega (arith, l, k.floor)),
  λ m e. absurd
      (no_rule (reply_delivered (length v.replica.entries) (answer_to w.replica k.stamped)) BadFloor m (sym k.reply ∙ e) refl
      (delivered_fine (length v.replica.entries) (answer_to w.replica k.stamped) (answer_fine w.replica k.stamped))),
)
