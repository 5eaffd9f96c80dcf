-- When two keys of paths, two places, two steps or two expressions are the same, and that these tests are equalities.
use Rattle.std.specs.Prelude.{◌≡◌, ◌==◌, Bool, true, false, List}
use Rattle.std.proofs.Common.{refl, sym, ap, true≢false}
use Rattle.std.specs.Bool.{Decides}
use Rattle.std.specs.Cmp.{IsEquivalence, decided, unsigned_Decides}
use Rattle.std.specs.Cmp.Lexicographic.{pointwise}
use Rattle.std.proofs.lemmas.Slice.Eq.{slice_eq-Decides}
use Rattle.semantics.specs.Ids.{is_same_id}
use Rattle.semantics.specs.Elements.{Place, At, HeadOf, name_cmp, is_same}
use Rattle.semantics.specs.Questions.{Step, Get, Idx, ById}
use Rattle.semantics.specs.Paths.{Hop, FieldHop, ItemHop, is_same_hop}
use Rattle.semantics.proofs.Orders.{Equal_from_test, element_itself, id_itself, ids_from_test, name_itself, same_elements, same_names}

-- p and q are one place
abbrev pub is_same_place : Place → Place → Bool
is_same_place (At e) (At f) = is_same e f
is_same_place (HeadOf l) (HeadOf m) = is_same l m
is_same_place _ _ = false

hop_itself : (k : Hop) → is_same_hop k k ≡ true
hop_itself (FieldHop n) = name_itself n
hop_itself (ItemHop a) = id_itself a

same_keys : (k l : Hop) → is_same_hop k l ≡ true → k ≡ l
same_keys (FieldHop n) (FieldHop m) h = ap FieldHop (same_names n m (Equal_from_test (name_cmp n m) h))
same_keys (ItemHop a) (ItemHop b) h = ap ItemHop (ids_from_test a b h)
same_keys (FieldHop n) (ItemHop b) h = absurd (true≢false (sym h))
same_keys (ItemHop a) (FieldHop m) h = absurd (true≢false (sym h))

pub hop_decides : (k l : Hop) → Decides (is_same_hop k l) (k ≡ l)
hop_decides k l = (same_keys k l, λ is. rw (← is) (hop_itself k))

pub same_hop_equiv : IsEquivalence is_same_hop
same_hop_equiv = decided is_same_hop hop_decides

place_itself : (p : Place) → is_same_place p p ≡ true
place_itself (At e) = element_itself e
place_itself (HeadOf l) = element_itself l

same_places : (p q : Place) → is_same_place p q ≡ true → p ≡ q
same_places (At e) (At f) h = ap At (same_elements e f h)
same_places (HeadOf l) (HeadOf m) h = ap HeadOf (same_elements l m h)
same_places (At e) (HeadOf m) h = absurd (true≢false (sym h))
same_places (HeadOf l) (At f) h = absurd (true≢false (sym h))

pub place_decides : (p q : Place) → Decides (is_same_place p q) (p ≡ q)
place_decides p q = (same_places p q, λ is. rw (← is) (place_itself p))

pub same_place_equiv : IsEquivalence is_same_place
same_place_equiv = decided is_same_place place_decides

-- s and t are one step
abbrev pub is_same_step : Step → Step → Bool
is_same_step (Get n) (Get m) = is_same_hop (FieldHop n) (FieldHop m)
is_same_step (Idx i) (Idx j) = i == j
is_same_step (ById a) (ById b) = is_same_id a b
is_same_step _ _ = false

step_itself : (s : Step) → is_same_step s s ≡ true
step_itself (Get n) = name_itself n
step_itself (Idx i) = (unsigned_Decides i i).1 refl
step_itself (ById a) = id_itself a

same_steps : (s t : Step) → is_same_step s t ≡ true → s ≡ t
same_steps (Get n) (Get m) h = ap Get (same_names n m (Equal_from_test (name_cmp n m) h))
same_steps (Idx i) (Idx j) h = ap Idx ((unsigned_Decides i j).0 h)
same_steps (ById a) (ById b) h = ap ById (ids_from_test a b h)
same_steps (Get n) (Idx j) h = absurd (true≢false (sym h))
same_steps (Get n) (ById b) h = absurd (true≢false (sym h))
same_steps (Idx i) (Get m) h = absurd (true≢false (sym h))
same_steps (Idx i) (ById b) h = absurd (true≢false (sym h))
same_steps (ById a) (Get m) h = absurd (true≢false (sym h))
same_steps (ById a) (Idx j) h = absurd (true≢false (sym h))

pub step_decides : (s t : Step) → Decides (is_same_step s t) (s ≡ t)
step_decides s t = (same_steps s t, λ is. rw (← is) (step_itself s))

pub same_step_equiv : IsEquivalence is_same_step
same_step_equiv = decided is_same_step step_decides

pub expression_decides : (e f : List Step) → Decides (pointwise is_same_step e f) (e ≡ f)
expression_decides e f = slice_eq-Decides step_decides e f (pointwise is_same_step e f) refl

pub same_expression_equiv : IsEquivalence (pointwise is_same_step)
same_expression_equiv = decided (pointwise is_same_step) expression_decides
