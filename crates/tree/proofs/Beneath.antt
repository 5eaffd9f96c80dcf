-- Which elements stand beneath another, and on the way down to it.
use Rattle.std.proofs.Common.{◌≡◌, ◌⊎◌, ℕ, true, List, [], ◌∷◌, take, drop, Some, None, sym, ap, ◌∙◌, inl, inr}
use Rattle.std.specs.List.{list_any}
use Rattle.std.proofs.lemmas.Bool.{or_cases}
use Rattle.std.proofs.lemmas.List.{take-append-drop}
use Rattle.std.proofs.lemmas.Option.{none-some}
use Rattle.semantics.specs.Elements.{Element, Doc, is_same, is_under}
use Rattle.semantics.specs.Paths.{Hop, child, down}
use Rattle.semantics.proofs.Orders.{same_elements}
use Rattle.semantics.proofs.ElementPaths.{down-append}
use Rattle.tree.specs.declared.node.Node.{Node}
use Rattle.tree.specs.Nodes.{links, number}
use Rattle.tree.specs.Writes.{end_of}
use Rattle.tree.proofs.Shape.{next_some, number_extend, under_none}
use Rattle.tree.proofs.Clears.{beneath, deeper, under_child, under_itself, under_parent, under_step}

-- an item with a node, of a list at e or under it, stands under one of e's children
pub beneath_child : (ns : List Node) (e : Element) (i : ℕ) → number ns e ≡ Some i → (y : Element) (k : Hop) (j : ℕ)
    → number ns (child y k) ≡ Some j → is_under y e ≡ true → list_any (is_under (child y k)) (beneath e (links ns i)) ≡ true
beneath_child ns e i at y k j p u =
    deeper ns e i at y k j (next_some ns (number ns y) k j (sym (number_extend ns y k) ∙ p)) (λ h hp. under_child ns e i at y h hp u)

-- what is on the way down to a place below z is on the way to z, or below it
way_parts : (z x : Element) (ks : List Hop) → is_under (down z ks) x ≡ true → (is_under z x ≡ true) ⊎ (is_under x z ≡ true)
way_parts z x [] u = inl u
way_parts z x (k ∷ ks) u = elim (way_parts (child z k) x ks u) [
  | inl v ↦ elim (or_cases (is_same (child z k) x) (is_under z x) (sym (under_step z x k) ∙ v)) [
    | inl s ↦ inr (under_parent x z k (ap (is_under x) (same_elements (child z k) x s) ∙ under_itself x))
    | inr w ↦ inl w
  ]
  | inr v ↦ inr (under_parent x z k v)
]

-- where a hop leads to no node, what has a node on the way down to the path's end is on the way to the hop's start
pub way_lost : (ns : List Node) (path : List Hop) (m : ℕ) (z : Element) (h : Hop) → end_of (take m path) ≡ child z h
    → number ns (child z h) ≡ None
    → (x : Element) (j : ℕ) → number ns x ≡ Some j → is_under (end_of path) x ≡ true → is_under z x ≡ true
way_lost ns path m z h is none x j p u =
    let whole : end_of path ≡ down (child z h) (drop m path) = ap end_of (sym (take-append-drop m path))
    ∙ down-append Doc (take m path) (drop m path) ∙ ap (λ e. down e (drop m path)) is in
    elim (way_parts (child z h) x (drop m path) (ap (λ e. is_under e x) (sym whole) ∙ u)) [
      | inl v ↦ elim (or_cases (is_same (child z h) x) (is_under z x) (sym (under_step z x h) ∙ v)) [
        | inl s ↦ absurd (none-some j (sym none ∙ ap (number ns) (same_elements (child z h) x s) ∙ p))
        | inr w ↦ w
      ]
      | inr v ↦ absurd (none-some j (sym (under_none ns (child z h) none x v) ∙ p))
    ]
