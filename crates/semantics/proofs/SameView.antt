-- The view reads its list as a set.
use Rattle.std.proofs.Common.{◌≡◌, not, ◌&&◌, List, map, Option, is_some, filter, ◌≢◌, sym, ap}
use Rattle.std.specs.FinMap.{find}
use Rattle.semantics.specs.Ids.{OpId, id_cmp, falling_cmp}
use Rattle.semantics.specs.Elements.{Element, Field, Item}
use Rattle.semantics.specs.Operations.{Operation, empties, tag_given, scalar_given, inserted_after}
use Rattle.semantics.specs.LegalHistory.{IsAmong, HaveSameOperations}
use Rattle.semantics.specs.Questions.{AppliedVector, Question, Values, Keys, Items, Conflicts, ValuesAre, KeysAre, ItemsAre, ConflictsAre}
use Rattle.semantics.specs.Questions.{VectorIs, resolve, answer_at}
use Rattle.semantics.specs.DocumentAnswer.{is_any}
use Rattle.semantics.specs.View.{view, collect, stays, live, live_scalars, live_names, inserts, tree_of, preorder}
use Rattle.semantics.specs.View.{live_items, live_lists}
use Rattle.semantics.proofs.Orders.{id_total, falling_total, same_ids, falling_same}
use Rattle.semantics.proofs.SameCollections.{HasDistinctIds, all_same, collects_same, names_same}
use Rattle.semantics.proofs.AppliedVectors.{vector_same}

distinct_same : (O P : List Operation) → HaveSameOperations O P → HasDistinctIds P → HasDistinctIds O
distinct_same O P same d x y m n e = d x y ((same x).0 m) ((same y).0 n) e

module _ (O P : List Operation) (same : HaveSameOperations O P) (distinct : HasDistinctIds P)
    (counted : (o : Operation) → IsAmong o P → o.id.counter ≢ 0) where
  stays_same : (e : Element) (a : OpId) → stays O e a ≡ stays P e a
  stays_same e a = all_same (λ o. not (empties o e && o.deps a)) O P same

  given_same : {X : Type 0} (given : Operation → Option X) → collect id_cmp given O ≡ collect id_cmp given P
  given_same given = collects_same id_cmp id_total same_ids given O P (distinct_same O P same distinct) distinct same

  pub live_same : (e : Element) → live O e ≡ live P e
  live_same e = λ i. filter (λ x. stays_same e x.0 i) (given_same (λ o. tag_given o e) i)

  pub scalars_same : (e : Element) → live_scalars O e ≡ live_scalars P e
  scalars_same e = λ i. filter (λ x. is_some (find id_cmp x.0 (live_same e i))) (given_same (λ o. scalar_given o e) i)

  inserts_same : (l : Element) → inserts O l ≡ inserts P l
  inserts_same l = collects_same falling_cmp falling_total falling_same (λ o. inserted_after o l) O P
      (distinct_same O P same distinct) distinct same

  pub items_same : (l : Element) → live_items O l ≡ live_items P l
  items_same l = λ i. filter (λ a. is_any (live_same (Item l a) i)) (preorder (tree_of (inserts_same l i)))

  pub keys_same : (e : Element) → live_names O e ≡ live_names P e
  keys_same e = λ i. filter (λ n. is_any (live_same (Field e n) i)) (map (λ x. x.0) (names_same O P same e i))

  lists_same : live_lists O ≡ live_lists P
  lists_same = λ i. record { shown = λ l. items_same l i; all = λ l. preorder (tree_of (inserts_same l i)) }

  -- the view doesn't depend on the order of the list
  pub view_same : (q : Question) → view O q ≡ view P q
  view_same (Values x) = λ i. answer_at (λ e. ValuesAre (scalars_same e i)) (resolve (lists_same i) x)
  view_same (Keys x) = λ i. answer_at (λ e. KeysAre (keys_same e i)) (resolve (lists_same i) x)
  view_same (Items x) = λ i. answer_at (λ e. ItemsAre (items_same e i)) (resolve (lists_same i) x)
  view_same (Conflicts x) = λ i. answer_at (λ e. ConflictsAre (live_same e i)) (resolve (lists_same i) x)
  view_same AppliedVector = ap VectorIs (sym (vector_same P O same counted))
