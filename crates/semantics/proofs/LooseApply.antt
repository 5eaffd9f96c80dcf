-- The document can be kept without the history: a clear by all that a vector covers is a clear by what it names.
use Rattle.std.proofs.Common.{◌≡◌, Bool, true, false, not, cond, ◌&&◌, List, [], ◌∷◌, Option, Some, None, Less, Equal, Greater, refl, sym}
use Rattle.std.proofs.Common.{ap, ◌∙◌, subst}
use Rattle.std.specs.FinMap.{put}
use Rattle.std.specs.FinMap.Entries.{by_order}
use Rattle.std.proofs.lemmas.Bool.{or_right, or_left}
use Rattle.semantics.specs.Ids.{OpId, IdSet, id_cmp, is_same_id}
use Rattle.semantics.specs.Elements.{Element, is_under}
use Rattle.semantics.specs.Operations.{Operation, target, tag_given, scalar_given}
use Rattle.semantics.specs.LegalHistory.{has_id}
use Rattle.semantics.specs.Context.{doc, apply, put_some, without}
use Rattle.semantics.specs.Vectors.{Vector, covers}
use Rattle.semantics.specs.NamedIds.{names}
use Rattle.semantics.specs.Stamped.{Stamped, operation_after, loose_operation}
use Rattle.semantics.proofs.Orders.{id_itself}
use Rattle.semantics.proofs.LiveEntries.{stored, presence_stored, register_stored}

-- the ids of these entries are in H
abbrev EntriesIn : {X : Type 0} → List Operation → List (OpId × X) → Type 0
EntriesIn H [] = Unit {0}
EntriesIn H (e ∷ es) = (has_id H e.0 ≡ true) × EntriesIn H es

in_later : {X : Type 0} (H : List Operation) (o : Operation) (es : List (OpId × X)) → EntriesIn H es → EntriesIn (o ∷ H) es
in_later H o [] h = tt
in_later H o (e ∷ es) h = (or_right (is_same_id o.id e.0) (has_id H e.0) h.0, in_later H o es h.1)

in_put : {X : Type 0} (H : List Operation) (a : OpId) (x : X) (es : List (OpId × X)) → has_id H a ≡ true → EntriesIn H es
    → EntriesIn H (put id_cmp a x es)
in_put H a x [] t h = (t, tt)
in_put H a x (e ∷ es) t h =
    elim (id_cmp a e.0) as
    (λ r. EntriesIn H
    (by_order r ((a, x) ∷ e ∷ es) ((e.0, x) ∷ es)
    (e ∷ put id_cmp a x es))) [ Less ↦ (t, h) | Equal ↦ h | Greater ↦ (h.0, in_put H a x es t h.1) ]

in_put_some : {X : Type 0} (H : List Operation) (a : OpId) (g : Option X) (es : List (OpId × X)) → has_id H a ≡ true → EntriesIn H es
    → EntriesIn H (put_some id_cmp a g es)
in_put_some H a None es t h = h
in_put_some H a (Some x) es t h = in_put H a x es t h

in_filter : {X : Type 0} (H : List Operation) (S : IdSet) (es : List (OpId × X)) → EntriesIn H es → EntriesIn H (without S es)
in_filter H S [] h = tt
in_filter H S (e ∷ es) h = elim (not (S e.0)) as
    (λ b. EntriesIn H (cond b (e ∷ without S es) (without S es))) [ true ↦ (h.0, in_filter H S es h.1) | false ↦ in_filter H S es h.1 ]

in_cleared : {X : Type 0} (H : List Operation) (b : Bool) (S : IdSet) (es : List (OpId × X)) → EntriesIn H es
    → EntriesIn H (cond b (without S es) es)
in_cleared H true S es h = in_filter H S es h
in_cleared H false S es h = h

stored_in : {X : Type 0} (given : Operation → Option X) (e : Element) (H : List Operation) → EntriesIn H (stored given e H)
unfolding stored
stored_in given e [] = tt
stored_in given e (o ∷ H) =
    in_put_some (o ∷ H) o.id (given o) _ (or_left (is_same_id o.id o.id) (has_id H o.id) (id_itself o.id))
    (in_cleared (o ∷ H) (is_under e (target o)) o.deps (stored given e H) (in_later H o (stored given e H) (stored_in given e H)))

without_same : {X : Type 0} (H : List Operation) (v : Vector) (es : List (OpId × X)) → EntriesIn H es
    → without (names H v) es ≡ without (covers v) es
without_same H v [] h = refl
without_same H v (e ∷ es) h =
    ap (λ b. cond (not (b && covers v e.0)) (e ∷ without (names H v) es) (without (names H v) es)) h.0
    ∙ ap (λ es'. cond (not (covers v e.0)) (e ∷ es') es') (without_same H v es h.1)

-- the two ways to apply a stamped operation
pub apply_loose : (H : List Operation) (s : Stamped) → apply (doc H) (operation_after H s) ≡ apply (doc H) (loose_operation s)
apply_loose H s = λ i. record {
  presence = λ e. put_some id_cmp s.id (tag_given (operation_after H s) e)
      (cond (is_under e (target (operation_after H s))) (presence e i) ((doc H).presence e));
  register = λ e. put_some id_cmp s.id (scalar_given (operation_after H s) e)
      (cond (is_under e (target (operation_after H s))) (register e i) ((doc H).register e));
  fields = (apply (doc H) (operation_after H s)).fields;
  order = (apply (doc H) (operation_after H s)).order;
}
  where
    presence : (e : Element) → without (names H s.vector) ((doc H).presence e) ≡ without (covers s.vector) ((doc H).presence e)
    presence e = without_same H s.vector ((doc H).presence e)
        (subst (EntriesIn H) (sym (presence_stored e H)) (stored_in (λ o. tag_given o e) e H))

    register : (e : Element) → without (names H s.vector) ((doc H).register e) ≡ without (covers s.vector) ((doc H).register e)
    register e = without_same H s.vector ((doc H).register e)
        (subst (EntriesIn H) (sym (register_stored e H)) (stored_in (λ o. scalar_given o e) e H))
