-- What holds of each item on the way down to an element, as what holds of each key of its path.
use Rattle.std.proofs.Common.{◌≡◌, refl, sym, ap, ◌∙◌, Bool, true, false, ◌&&◌, List, [], ◌∷◌, ◌++◌}
use Rattle.std.specs.List.{list_all}
use Rattle.std.proofs.lemmas.List.Folds.{list_all-append}
use Rattle.semantics.specs.Elements.{Element, Doc, Field, Item}
use Rattle.semantics.specs.Paths.{Hop, FieldHop, ItemHop, hops_from_root}
use Rattle.semantics.specs.Vectors.{Vector, covers}
use Rattle.semantics.specs.Faults.{items_covered}
use Rattle.operation.specs.Alone.{key_covered}

last_first : (p : Hop → Bool) (ks : List Hop) (k : Hop) → list_all p (ks ++ k ∷ []) ≡ (p k && list_all p ks)
last_first p ks k = list_all-append p ks (k ∷ []) ∙ turned (list_all p ks) (p k)
  where
    turned : (a b : Bool) → (a && (b && true)) ≡ (b && a)
    turned true true = refl
    turned true false = refl
    turned false true = refl
    turned false false = refl

pub items_covered-keys : (v : Vector) (e : Element) → items_covered v e ≡ list_all (key_covered v) (hops_from_root e)
items_covered-keys v Doc = refl
items_covered-keys v (Field e n) = items_covered-keys v e ∙ sym (last_first (key_covered v) (hops_from_root e) (FieldHop n))
items_covered-keys v (Item e a) = ap (λ b. covers v a && b) (items_covered-keys v e)
    ∙ sym (last_first (key_covered v) (hops_from_root e) (ItemHop a))
