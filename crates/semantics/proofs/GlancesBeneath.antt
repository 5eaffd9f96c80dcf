-- A glance is the same whether the document shows it or the operations as a set, and the rows beneath an element are those of glances
-- at what stands there, one deeper.
use Rattle.std.proofs.Common.{◌≡◌, ℕ, ◌+◌, zero, suc, false, List, [], ◌∷◌, ◌++◌, map, Option, Some, None, refl, sym, ap, ◌∙◌, add-suc}
use Rattle.std.specs.List.{flat_map}
use Rattle.std.proofs.lemmas.List.{map-append}
use Rattle.semantics.specs.Elements.{Element}
use Rattle.semantics.specs.Operations.{Operation}
use Rattle.semantics.specs.Paths.{Hop, child}
use Rattle.semantics.specs.LegalHistory.{IsLegal, HaveSameOperations}
use Rattle.semantics.specs.Context.{doc}
use Rattle.semantics.specs.Glances.{Shown, Row, shown_by, live_shown, row_at, hops_below, rows_of, glance_of, deeper, beneath}
use Rattle.semantics.proofs.LiveEntries.{presence_live, register_live}
use Rattle.semantics.proofs.LegalFacts.{same_operation}
use Rattle.semantics.proofs.AppliedVectors.{legal_counters}
use Rattle.semantics.proofs.DocumentIsView.{items_are, shown_names}
use Rattle.semantics.proofs.SameView.{items_same, keys_same, live_same, scalars_same}

document_shows : (H : List Operation) → IsLegal H → shown_by (doc H) ≡ live_shown H
document_shows H legal = λ i. record {
  values = λ e. register_live H legal e i;
  names = λ e. shown_names H legal e i;
  items = λ e. items_are H legal e i;
  conflicts = λ e. presence_live H legal e i;
}

set_shows : (H O : List Operation) → IsLegal H → HaveSameOperations O H → live_shown O ≡ live_shown H
set_shows H O legal same =
    let distinct = same_operation H legal in
    let counted = legal_counters H legal in
    λ i. record {
      values = λ e. scalars_same O H same distinct counted e i;
      names = λ e. keys_same O H same distinct counted e i;
      items = λ e. items_same O H same distinct counted e i;
      conflicts = λ e. live_same O H same distinct counted e i;
    }

-- A glance at a legal history shows what its operations show, as a set.
pub glance_is_view : (H O : List Operation) → IsLegal H → HaveSameOperations O H → (depth elements : ℕ) (e : Element)
    → glance_of (shown_by (doc H)) depth elements e ≡ glance_of (live_shown O) depth elements e
glance_is_view H O legal same depth elements e =
    ap (λ S. glance_of S depth elements e) (document_shows H legal ∙ sym (set_shows H O legal same))

-- ---- the rows beneath

-- where each list is the other one's, mapped, so are all
all_mapped : (f g : Hop → List Row) (t : Row → Row) → ((h : Hop) → f h ≡ map t (g h)) → (hs : List Hop)
    → flat_map f hs ≡ map t (flat_map g hs)
all_mapped f g t is [] = refl
all_mapped f g t is (h ∷ hs) = (λ i. is h i ++ all_mapped f g t is hs i) ∙ sym (map-append t (g h) (flat_map g hs))

module _ (S : Shown) where
  -- rows that begin n deeper
  rows_deeper : (d n at : ℕ) (k : Option Hop) (e : Element) → rows_of S d (n + at) k e ≡ map (deeper n) (rows_of S d at k e)
  rows_deeper zero n at k e = refl
  rows_deeper (suc d) n at k e =
      let below : (h : Hop) → rows_of S d (suc (n + at)) (Some h) (child e h) ≡ map (deeper n) (rows_of S d (suc at) (Some h) (child e h))
      = λ h. ap (λ m. rows_of S d m (Some h) (child e h)) (sym (add-suc n at)) ∙ rows_deeper d n (suc at) (Some h) (child e h) in
      λ i. row_at S (n + at) k e false ∷ all_mapped (λ h. rows_of S d (suc (n + at)) (Some h) (child e h))
      (λ h. rows_of S d (suc at) (Some h) (child e h)) (deeper n) below (hops_below S e) i

  rows_beneath : (d : ℕ) (h : Hop) (e : Element) → rows_of S d 1 (Some h) e ≡ beneath h (rows_of S d 0 None e)
  rows_beneath zero h e = refl
  rows_beneath (suc d) h e =
      λ i. row_at S 1 (Some h) e false ∷ all_mapped (λ g. rows_of S d 2 (Some g) (child e g)) (λ g. rows_of S d 1 (Some g) (child e g))
      (deeper 1) (λ g. rows_deeper d 1 1 (Some g) (child e g)) (hops_below S e) i

  -- The rows of an element are its own, and then those of glances at what stands right beneath it, one deeper.
  pub rows_joined : (d : ℕ) (e : Element) → rows_of S (suc d) 0 None e
      ≡ row_at S 0 None e false ∷ flat_map (λ h. beneath h (rows_of S d 0 None (child e h))) (hops_below S e)
  rows_joined d e = λ i. row_at S 0 None e false ∷ flat_map (λ h. rows_beneath d h (child e h) i) (hops_below S e)
