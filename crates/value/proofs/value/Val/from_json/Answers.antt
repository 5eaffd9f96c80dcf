-- Lists and objects without parts have forms, and those with parts have none.
use Rattle.std.proofs.Common.{◌≡◌, ◌≢◌, suc, List, [], ◌∷◌, length, Ok, Err, true, false, String, Global, inl, refl, sym, ap, ◌∙◌}
use Rattle.std.specs.Prelude.{◌==◌}
use Rattle.std.proofs.lemmas.Bool.{eqb-true}
use Rattle.ids.specs.declared.refusal.Refusal.TheVariants.{BadLine}
use Rattle.semantics.specs.Elements.{EmptyMap, EmptyList}
use Rattle.serde_json.proofs.Views.{view-Array, view-Object}
use Rattle.serde_json.specs.Data.{array, object}
use Rattle.serde_json.specs.View.{view, items_view, members_view}
use Rattle.serde_json.specs.declared.value.Value.{Value}
use Rattle.value.specs.Forms.{value_form}
use Rattle.value.proofs.value.Val.from_json.Goals as goal

form_of_items : (vs : List Value) → (length vs == 0) ≡ false → value_form (array (items_view vs)) ≡ Err BadLine
form_of_items [] e = absurd (cc)
form_of_items (v ∷ vs) e = refl

form_of_no_items : (vs : List Value) → (length vs == 0) ≡ true → value_form (array (items_view vs)) ≡ Ok EmptyList
form_of_no_items [] e = refl
form_of_no_items (v ∷ vs) e = let none : suc (length vs) ≡ 0 = eqb-true (suc (length vs)) 0 e in absurd (cc)

form_of_members : (ms : List (String Global × Value)) → length ms ≢ 0 → value_form (object (members_view ms)) ≡ Err BadLine
form_of_members [] h = absurd (h refl)
form_of_members (m ∷ ms) h = refl

form_of_no_members : (ms : List (String Global × Value)) → length ms ≡ 0 → value_form (object (members_view ms)) ≡ Ok EmptyMap
form_of_no_members [] e = refl
form_of_no_members (m ∷ ms) e = absurd (cc)

pub returns-in-Array-clause-ok : goal.returns-in-Array-clause-ok
returns-in-Array-clause-ok c =
    let v = c.in-Array.items in
    ap (λ j. value_form (view j)) c.in-Array.is ∙ rw (view-Array v) (form_of_no_items v.items (rw (← v.ok.0) (sym c.if-is_empty.ensures)))

pub returns-in-Array-2-clause-err : goal.returns-in-Array-2-clause-err
returns-in-Array-2-clause-err c =
    let v = c.in-Array.items in
    inl (ap (λ j. value_form (view j)) c.in-Array.is
    ∙ rw (view-Array v) (form_of_items v.items (rw (← v.ok.0) (sym c.if-is_empty.ensures))))

pub returns-in-Object-clause-ok : goal.returns-in-Object-clause-ok
returns-in-Object-clause-ok c =
    let m = c.in-Object.members in
    ap (λ j. value_form (view j)) c.in-Object.is ∙ rw (view-Object m) (form_of_no_members m.entries (c.if-is_empty-2.ensures.0 refl))

pub returns-in-Object-2-clause-err : goal.returns-in-Object-2-clause-err
returns-in-Object-2-clause-err c =
    let m = c.in-Object.members in
    inl (ap (λ j. value_form (view j)) c.in-Object.is
    ∙ rw (view-Object m) (form_of_members m.entries (λ e. let t : false ≡ true = c.if-is_empty-2.ensures.1 e in absurd (cc))))
