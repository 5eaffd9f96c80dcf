-- Nodes of the same view stand for the same context.
use Rattle.std.proofs.Common.{◌≡◌, ℕ, false, List, Option, Some, None, refl, ap, ◌∙◌}
use Rattle.std.specs.Prelude.{slice_get, unwrap_or}
use Rattle.std.specs.FinMap.{find}
use Rattle.semantics.specs.Elements.{Element, Name, name_cmp}
use Rattle.tree.specs.declared.node.Node.{Node}
use Rattle.tree.specs.Nodes.{SameView, context, flags_of, empty_below_of, is_flagged, links_of, links, names_in, node_at, node_in, number}
use Rattle.tree.specs.Nodes.{order_of, presence_of}
use Rattle.tree.specs.Nodes.{register_of, visible_of}
use Rattle.tree.proofs.Shape.{number_links}
use Rattle.tree.proofs.Contexts.{context_same, names_same}

at_view : {A : Type 0} (ns ms : List Node) (f : Option Node → A) → ((i : ℕ) → f (slice_get ns i) ≡ f (slice_get ms i)) → (o : Option ℕ)
    → f (node_in ns o) ≡ f (node_in ms o)
at_view ns ms f h None = refl
at_view ns ms f h (Some i) = h i

pub context_view : (ns ms : List Node) → SameView ns ms → context ns ≡ context ms
context_view ns ms v =
    let here = λ (x : Element). number_links ns ms v.links x in
    context_same _ _
    (λ x. at_view ns ms presence_of v.presence (number ns x) ∙ ap (λ o. presence_of (node_in ms o)) (here x))
    (λ x. at_view ns ms register_of v.register (number ns x) ∙ ap (λ o. register_of (node_in ms o)) (here x))
    (λ x. names_same ns ms v.written _
    ∙ ap (λ l. names_in ms l.0) (at_view ns ms links_of v.links (number ns x) ∙ ap (λ o. links_of (node_in ms o)) (here x)))
    (λ x. at_view ns ms order_of v.order (number ns x) ∙ ap (λ o. order_of (node_in ms o)) (here x))

-- what stays at each number, stays at each element
pub visible_view : (ns ms : List Node) → ((i : ℕ) → links ns i ≡ links ms i)
    → ((i : ℕ) → visible_of (slice_get ns i) ≡ visible_of (slice_get ms i)) → (e : Element)
    → visible_of (node_at ns e) ≡ visible_of (node_at ms e)
visible_view ns ms links h e = at_view ns ms visible_of h (number ns e) ∙ ap (λ o. visible_of (node_in ms o)) (number_links ns ms links e)

pub empty_below_view : (ns ms : List Node) → ((i : ℕ) → links ns i ≡ links ms i)
    → ((i : ℕ) → empty_below_of (slice_get ns i) ≡ empty_below_of (slice_get ms i)) → (e : Element)
    → empty_below_of (node_at ns e) ≡ empty_below_of (node_at ms e)
empty_below_view ns ms links h e = at_view ns ms empty_below_of h (number ns e)
    ∙ ap (λ o. empty_below_of (node_in ms o)) (number_links ns ms links e)

pub flagged_view : (ns ms : List Node) → ((i : ℕ) → links ns i ≡ links ms i)
    → ((i : ℕ) → flags_of (slice_get ns i) ≡ flags_of (slice_get ms i)) → (e : Element) (n : Name)
    → is_flagged (node_at ns e) n ≡ is_flagged (node_at ms e) n
flagged_view ns ms links h e n = ap (λ fs. unwrap_or (find name_cmp n fs) false)
    (at_view ns ms flags_of h (number ns e) ∙ ap (λ o. flags_of (node_in ms o)) (number_links ns ms links e))
