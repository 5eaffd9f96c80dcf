-- Two places are the same where both or neither are heads, and their hops are the same.
use Rattle.std.proofs.Common.{◌≡◌, List, [], ◌∷◌, map, Bool, true, false, refl, sym, ap, ◌∙◌, true≢false}
use lib.Pointwise.{pointwise_decides}
use Rattle.std.proofs.Math.Bool.{beq}
use Rattle.std.specs.Cmp.{both_ways}
use Rattle.std.specs.Cmp.Lexicographic.{pointwise}
use Rattle.semantics.specs.Elements.{Element, Doc, Place, At, HeadOf, is_same}
use Rattle.semantics.specs.Operations.{element_of}
use Rattle.semantics.specs.Paths.{down, is_same_hop, hops_from_root}
use Rattle.semantics.proofs.ElementPaths.{down-hops_from_root}
use Rattle.semantics.proofs.Orders.{element_itself, same_elements}
use Rattle.cursor.specs.declared.hop.Hop.{Hop}
use Rattle.cursor.specs.Steps.{hop_of}
use Rattle.cursor.specs.Places.{is_head}
use Rattle.cursor.specs.SamePlaces.{is_same_place, hop_decides}
use Rattle.cursor.proofs.place.PlacePartialEq.eq.Goals as goal

paths_of_hops : (hs ks : List Hop)
    → pointwise (λ h k. is_same_hop (hop_of h) (hop_of k)) hs ks ≡ pointwise is_same_hop (map hop_of hs) (map hop_of ks)
paths_of_hops [] [] = refl
paths_of_hops [] (k ∷ ks) = refl
paths_of_hops (h ∷ hs) [] = refl
paths_of_hops (h ∷ hs) (k ∷ ks) = rw (paths_of_hops hs ks) refl

same_paths : (e f : Element) → pointwise is_same_hop (hops_from_root e) (hops_from_root f) ≡ is_same e f
same_paths e f =
    let decides = pointwise_decides hop_decides (hops_from_root e) (hops_from_root f) in
    both_ways _ _
    (λ h. let is : e ≡ f = sym (down-hops_from_root e) ∙ ap (down Doc) (decides.0 h) ∙ down-hops_from_root f in
    rw (← is) (element_itself e))
    (λ h. decides.1 (ap hops_from_root (same_elements e f h)))

same_tests : (a b : Bool) → beq a b ≡ true → a ≡ b
same_tests true true h = refl
same_tests false false h = refl
same_tests true false h = sym h
same_tests false true h = h

by_element : (p q : Place) → is_head p ≡ is_head q → is_same (element_of p) (element_of q) ≡ is_same_place p q
by_element (At e) (At f) h = refl
by_element (HeadOf l) (HeadOf m) h = refl
by_element (At e) (HeadOf m) h = absurd (true≢false (sym h))
by_element (HeadOf l) (At f) h = absurd (true≢false h)

pub returns-then-is_head : goal.returns-then-is_head
returns-then-is_head c =
    let p = c.args.self.now in
    let q = c.args.other.now in
    c.eq.ensures
    ∙ paths_of_hops c.hops.result.now c.hops-then-is_head.result.now
    ∙ (λ i. pointwise is_same_hop (c.hops.ensures i) (c.hops-then-is_head.ensures i))
    ∙ same_paths (element_of p) (element_of q)
    ∙ by_element p q (sym c.is_head.ensures ∙ same_tests c.is_head.result c.is_head-2.result c.if-is_head.true ∙ c.is_head-2.ensures)
