-- The document and the view give one answer.
use Rattle.std.proofs.Common.{◌≡◌, List, [], ◌∷◌, map, filter, refl, sym, ap, ◌∙◌}
use Rattle.semantics.specs.Elements.{Element, Field, Item}
use Rattle.semantics.specs.Operations.{Operation, name_given}
use Rattle.semantics.specs.LegalHistory.{IsLegal, HaveSameOperations}
use Rattle.semantics.specs.Context.{doc, put_name}
use Rattle.semantics.specs.Questions.{AppliedVector, Question, Values, Keys, Items, Conflicts, ValuesAre, KeysAre, ItemsAre, ConflictsAre}
use Rattle.semantics.specs.Questions.{resolve, answer_at}
use Rattle.semantics.specs.DocumentAnswer.{document_answer, lists_of, visible_items, visible_names, is_any}
use Rattle.semantics.specs.View.{view, live_items, live_lists, live_names, field_names}
use Rattle.semantics.proofs.LiveEntries.{presence_live, register_live}
use Rattle.semantics.proofs.ListOrder.{order_is}
use Rattle.semantics.proofs.LegalFacts.{same_operation}
use Rattle.semantics.proofs.SameView.{view_same}
use Rattle.semantics.proofs.AppliedVectors.{legal_counters}

names_are : (H : List Operation) (e : Element) → (doc H).fields e ≡ field_names H e
names_are [] e = refl
names_are (o ∷ H) e = ap (put_name (name_given o e)) (names_are H e)

pub items_are : (H : List Operation) → IsLegal H → (l : Element) → visible_items (doc H) l ≡ live_items H l
items_are H legal l = λ i. filter (λ a. is_any (presence_live H legal (Item l a) i)) (order_is H legal l i)

lists_are : (H : List Operation) → IsLegal H → lists_of (doc H) ≡ live_lists H
lists_are H legal = λ i. record { shown = λ l. items_are H legal l i; all = λ l. order_is H legal l i }

pub shown_names : (H : List Operation) → IsLegal H → (e : Element) → visible_names (doc H) e ≡ live_names H e
shown_names H legal e = λ i. filter (λ n. is_any (presence_live H legal (Field e n) i)) (map (λ x. x.0) (names_are H e i))

pub document_is_view : (H : List Operation) → IsLegal H → (q : Question) → document_answer H q ≡ view H q
document_is_view H legal (Values x) = λ i. answer_at (λ e. ValuesAre (register_live H legal e i)) (resolve (lists_are H legal i) x)
document_is_view H legal (Keys x) = λ i. answer_at (λ e. KeysAre (shown_names H legal e i)) (resolve (lists_are H legal i) x)
document_is_view H legal (Items x) = λ i. answer_at (λ e. ItemsAre (items_are H legal e i)) (resolve (lists_are H legal i) x)
document_is_view H legal (Conflicts x) = λ i. answer_at (λ e. ConflictsAre (presence_live H legal e i))
    (resolve (lists_are H legal i) x)
document_is_view H legal AppliedVector = refl

-- What a legal history answers is what its operations show, as a set.
pub document_is_view_of_set : (H O : List Operation) → IsLegal H → HaveSameOperations O H → (q : Question) → document_answer H q ≡ view O q
document_is_view_of_set H O legal same q = document_is_view H legal q
    ∙ sym (view_same O H same (same_operation H legal) (legal_counters H legal) q)
