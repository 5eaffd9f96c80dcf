-- A walk along an expression, and the hops that it collects.
use Rattle.std.proofs.Common.{◌≡◌, ℕ, ◌<◌, ◌≤◌, Bool, false, List, [], ◌∷◌, ◌++◌, length, map, drop, Result, Ok, Err, refl, sym, ap, ◌∙◌}
use Rattle.std.specs.Prelude.{IfOk, IfSome}
use Rattle.std.proofs.lemmas.Bool.{le-ltb}
use Rattle.std.proofs.lemmas.List.{drop_all, map-append}
use Rattle.ids.specs.declared.refusal.Refusal.{Refusal}
use Rattle.semantics.specs.Elements.{Place, At, Doc}
use Rattle.semantics.specs.Operations.{element_of}
use Rattle.semantics.specs.Paths.{Hop as TheHop, child}
use Rattle.semantics.specs.Questions.{Lists, walk_from}
use Rattle.semantics.proofs.ElementPaths.{down-append}
use Rattle.operation.specs.cursor.declared.expression.Step.{Step}
use Rattle.operation.specs.cursor.declared.hop.Hop.{Hop}
use Rattle.operation.specs.cursor.Places.{depth_of, place_at, place_from}
use Rattle.operation.specs.cursor.Steps.{hop_of, step_of}
use Rattle.tree.specs.declared.node.Node.{Node}
use Rattle.tree.specs.declared.spot.Spot.{Spot}
use Rattle.tree.specs.Nodes.{IsTree}
use Rattle.tree.specs.Spots.{IsSpot}
use Rattle.tree.specs.Writes.{end_of}
use Rattle.tree.proofs.StandingItems.{node_inside}

-- the node of a spot is one of the nodes
pub spot_inside : (ns : List Node) → IsTree ns → (s : Spot) → (p : Place) × IsSpot ns s p → IfSome s.node (λ i. i < length ns)
spot_inside ns t s (p, is) = node_inside ns t (element_of p) s.node is.node

-- one hop more leads to a child
pub pushed_hop : (hops longer : List Hop) (hop : Hop) → longer ≡ hops ++ hop ∷ []
    → place_at (map hop_of longer) false ≡ At (child (end_of (map hop_of hops)) (hop_of hop))
pushed_hop hops longer hop is =
    ap (λ hs. At (end_of (map hop_of hs))) is
    ∙ ap (λ path. At (end_of path)) (map-append hop_of hops (hop ∷ []))
    ∙ ap At (down-append Doc (map hop_of hops) (hop_of hop ∷ []))

-- after the last step, the hops are the place that the walk leads to
pub walked : (lists : Lists) (steps : List Step) (k : ℕ) (path : List TheHop) (head : Bool) → length steps ≤ k
    → depth_of (place_at path head) ≤ 32
    → place_from path head ≡ walk_from lists (map step_of (drop k steps)) (Ok (place_at path head))
walked lists steps k path head end short =
    let place : place_from path head ≡ Ok (place_at path head) = rw (le-ltb 32 (depth_of (place_at path head)) short) refl in
    place ∙ sym (ap (λ xs. walk_from lists (map step_of xs) (Ok (place_at path head))) (drop_all k steps end))

-- a result that is the one wanted
pub if_ok : (r : Result Place Refusal) {wanted : Result Place Refusal} → r ≡ wanted → IfOk r (λ p. wanted ≡ Ok p)
if_ok (Ok p) is = sym is
if_ok (Err why) is = tt
