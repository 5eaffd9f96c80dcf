-- What stands beneath an element stands at it too: each operation keeps that, and so nothing is beneath what is empty.
use Rattle.std.proofs.Common.{◌≡◌, ◌&&◌, ◌||◌, Bool, true, false, cond, not, List, [], ◌∷◌, Option, Some, None, is_some, refl, sym, ap, ◌∙◌}
use Rattle.std.proofs.Common.{inl, inr, true≢false}
use Rattle.std.specs.FinMap.{find, put}
use Rattle.std.specs.FinMap.Entries.{find-put}
use Rattle.std.proofs.lemmas.Bool.{and_from, and_parts, or_cases, or_left, or_right}
use Rattle.semantics.specs.Ids.{OpId, IdSet, id_cmp, is_same_id}
use Rattle.semantics.specs.Elements.{Element, Doc, Field, Item, Value, is_same, is_under, tag_of}
use Rattle.semantics.specs.Operations.{Operation, scalar_given, scalar_in, tag_given, tag_of_value, target, value_of}
use Rattle.semantics.specs.Context.{Context, apply, clear, empty, link, put_some, without, write}
use Rattle.semantics.proofs.CollectedEntries.{found_kept}
use Rattle.semantics.proofs.Orders.{id_itself, id_total, same_elements}
use Rattle.semantics.proofs.Reaching.{tag_where_reached}
use Rattle.tree.specs.Nested.{IsNested, stands}
use Rattle.tree.specs.Writes.{linked}
use Rattle.tree.proofs.Clears.{clear_each, under_itself}
use Rattle.tree.proofs.Contexts.{context_same}

some_or : {A : Type 0} (b : Bool) (x : A) (o : Option A) → is_some (cond b (Some x) o) ≡ (b || is_some o)
some_or true x o = refl
some_or false x o = refl

some_and : {A : Type 0} (b : Bool) (o : Option A) → is_some (cond b o None) ≡ (b && is_some o)
some_and true o = refl
some_and false o = refl

module _ {X : Type 0} where
  stands_put : (q a : OpId) (v : X) (es : List (OpId × X)) → stands q (put id_cmp a v es) ≡ (is_same_id q a || stands q es)
  stands_put q a v es = ap is_some (find-put id_cmp id_total q a v es) ∙ some_or (is_same_id q a) v (find id_cmp q es)

  stands_some : (q a : OpId) (g : Option X) (es : List (OpId × X))
      → stands q (put_some id_cmp a g es) ≡ ((is_some g && is_same_id q a) || stands q es)
  stands_some q a None es = refl
  stands_some q a (Some v) es = stands_put q a v es

  stands_without : (q : OpId) (S : IdSet) (es : List (OpId × X)) → stands q (without S es) ≡ (not (S q) && stands q es)
  stands_without q S es = ap is_some (found_kept (λ a. not (S a)) q es) ∙ some_and (not (S q)) (find id_cmp q es)

  -- what a clear leaves, where it reaches or not
  stands_left : (q : OpId) (S : IdSet) (b : Bool) (es : List (OpId × X))
      → stands q (cond b (without S es) es) ≡ (not (b && S q) && stands q es)
  stands_left q S true es = stands_without q S es
  stands_left q S false es = refl

  none_stands : (es : List (OpId × X)) → ((a : OpId) → stands a es ≡ true → ⊥) → es ≡ []
  none_stands [] h = refl
  none_stands (e ∷ es) h = absurd (h e.0 (ap (λ b. is_some (cond b (Some e.1) (find id_cmp e.0 es))) (id_itself e.0)))

under_trans : (x e t : Element) → is_under x e ≡ true → is_under e t ≡ true → is_under x t ≡ true
under_trans Doc e t u v = ap (λ z. is_under z t) (same_elements Doc e u) ∙ v
under_trans (Field y n) e t u v = elim (or_cases (is_same (Field y n) e) (is_under y e) u) [
  | inl s ↦ ap (λ z. is_under z t) (same_elements (Field y n) e s) ∙ v
  | inr w ↦ or_right (is_same (Field y n) t) _ (under_trans y e t w v)
]
under_trans (Item y a) e t u v = elim (or_cases (is_same (Item y a) e) (is_under y e) u) [
  | inl s ↦ ap (λ z. is_under z t) (same_elements (Item y a) e s) ∙ v
  | inr w ↦ or_right (is_same (Item y a) t) _ (under_trans y e t w v)
]

pub nested_empty : IsNested empty
nested_empty = record {
  presence = λ x e a u h. absurd (true≢false (sym h));
  register = λ x a h. absurd (true≢false (sym h));
}

-- the order of a list doesn't matter
pub nested_linked : (C : Context) (l : Element) (p : Option OpId) (a : OpId) → IsNested C → IsNested (linked C l p a)
nested_linked C l p a n = record { presence = n.presence; register = n.register }

fewer : (b c s : Bool) → (b ≡ true → c ≡ true) → not (c && s) ≡ true → not (b && s) ≡ true
fewer true c s h n = ap (λ d. not (d && s)) (sym (h refl)) ∙ n
fewer false c s h n = refl

pub nested_clear : (C : Context) (t : Element) (S : IdSet) → IsNested C → IsNested (clear C t S)
nested_clear C t S n = record {
  presence = λ x e a u h.
      let was = and_parts (not (is_under x t && S a)) (stands a (C.presence x))
      (sym (stands_left a S (is_under x t) (C.presence x)) ∙ h) in
      stands_left a S (is_under e t) (C.presence e)
      ∙ and_from _ _ (fewer (is_under e t) (is_under x t) (S a) (λ v. under_trans x e t u v) was.0) (n.presence x e a u was.1);
  register = λ x a h.
      let was = and_parts (not (is_under x t && S a)) (stands a (C.register x))
      (sym (stands_left a S (is_under x t) (C.register x)) ∙ h) in
      stands_left a S (is_under x t) (C.presence x) ∙ and_from _ _ was.0 (n.register x a was.1);
}

pub nested_each : (C : Context) (es : List Element) (S : IdSet) → IsNested C → IsNested (clear_each C es S)
nested_each C [] S n = n
nested_each C (e ∷ es) S n = nested_each (clear C e S) es S (nested_clear C e S n)

-- where an element is reached, so is each element on the way down to it
reached_above : (v : Option Value) (t x e : Element) → is_under x e ≡ true → is_some (tag_of_value v t x) ≡ true
    → is_some (tag_of_value v t e) ≡ true
reached_above None t x e u h = absurd (true≢false (sym h))
reached_above (Some v) t x e u h = tag_where_reached (tag_of v) t e
    ∙ under_trans t x e (sym (tag_where_reached (tag_of v) t x) ∙ h) u

-- a scalar is written where a tag is
scalar_tagged : (v : Option Value) (t x : Element) → is_some (cond (is_same t x) (scalar_in v) None) ≡ true
    → is_some (tag_of_value v t x) ≡ true
scalar_tagged None t x h = absurd (true≢false
    (sym h ∙ some_and (is_same t x) (scalar_in None) ∙ nothing (is_same t x)))
  where
    nothing : (b : Bool) → (b && false) ≡ false
    nothing true = refl
    nothing false = refl
scalar_tagged (Some v) t x h =
    let here = and_parts (is_same t x) (is_some (scalar_in (Some v))) (sym (some_and (is_same t x) (scalar_in (Some v))) ∙ h) in
    tag_where_reached (tag_of v) t x ∙ ap (is_under t) (sym (same_elements t x here.0)) ∙ under_itself t

nested_write : (C : Context) (o : Operation) → IsNested C → IsNested (write C o)
nested_write C o n = record {
  presence = λ x e a u h. stands_some a o.id (tag_given o e) (C.presence e) ∙ elim
      (or_cases (is_some (tag_given o x) && is_same_id a o.id) (stands a (C.presence x))
      (sym (stands_some a o.id (tag_given o x) (C.presence x)) ∙ h)) [
        | inl w ↦
            let new = and_parts (is_some (tag_given o x)) (is_same_id a o.id) w in
            or_left _ _ (and_from _ _ (reached_above (value_of o.mutation) (target o) x e u new.0) new.1)
        | inr old ↦ or_right (is_some (tag_given o e) && is_same_id a o.id) _ (n.presence x e a u old)
      ];
  register = λ x a h. stands_some a o.id (tag_given o x) (C.presence x) ∙ elim
      (or_cases (is_some (scalar_given o x) && is_same_id a o.id) (stands a (C.register x))
      (sym (stands_some a o.id (scalar_given o x) (C.register x)) ∙ h)) [
        | inl w ↦
            let new = and_parts (is_some (scalar_given o x)) (is_same_id a o.id) w in
            or_left _ _ (and_from _ _ (scalar_tagged (value_of o.mutation) (target o) x new.0) new.1)
        | inr old ↦ or_right (is_some (tag_given o x) && is_same_id a o.id) _ (n.register x a old)
      ];
}

pub nested_apply : (C : Context) (o : Operation) → IsNested C → IsNested (apply C o)
nested_apply C o n =
    let linked : IsNested (link C o) = record { presence = n.presence; register = n.register } in
    nested_write (clear (link C o) (target o) o.deps) o (nested_clear (link C o) (target o) o.deps linked)

-- nothing is beneath what is empty, so a clear there changes nothing
pub clear_empty : (C : Context) (e : Element) (S : IdSet) → IsNested C → C.presence e ≡ [] → C ≡ clear C e S
clear_empty C e S n none = context_same _ _ (λ x. left_empty (is_under x e) (C.presence x) (no_presence x))
    (λ x. left_empty (is_under x e) (C.register x) (λ u. none_stands (C.register x) (λ a h. away x a u (n.register x a h))))
    (λ x. refl) (λ x. refl)
  where
    left_empty : {X : Type 0} (b : Bool) (es : List (OpId × X)) → (b ≡ true → es ≡ []) → es ≡ cond b (without S es) es
    left_empty true es h = h refl ∙ ap (without S) (sym (h refl))
    left_empty false es h = refl

    away : (x : Element) (a : OpId) → is_under x e ≡ true → stands a (C.presence x) ≡ true → ⊥
    away x a u h = true≢false (sym (n.presence x e a u h) ∙ ap (stands a) none)

    no_presence : (x : Element) → is_under x e ≡ true → C.presence x ≡ []
    no_presence x u = none_stands (C.presence x) (λ a h. away x a u h)
