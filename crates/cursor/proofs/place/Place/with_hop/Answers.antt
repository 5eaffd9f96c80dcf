-- The element one hop further, where there is room.
use Rattle.std.proofs.Common.{◌≡◌, map, inl, refl, sym, ap, ◌∙◌, arith}
use Rattle.semantics.specs.Elements.{Doc}
use Rattle.semantics.specs.Operations.{element_of}
use Rattle.semantics.specs.Paths.{child, down}
use Rattle.cursor.specs.Steps.{hop_of}
use Rattle.cursor.proofs.Below.{depth_below}
use Rattle.cursor.proofs.RootPaths.{depth-child, down-longer}
use Rattle.cursor.proofs.place.Place.with_hop.Goals as goal

leads_to : (c : goal.In_ok-longer)
    → down Doc (map hop_of c.in_ok-longer.field-0.items) ≡ child (element_of c.args.self.now) (hop_of c.args.hop)
leads_to c = ap (λ hops. down Doc (map hop_of hops)) c.in_ok-longer.ensures
    ∙ down-longer (element_of c.args.self.now) c.hops.result.now c.args.hop c.hops.ensures

pub invariant_of-result : goal.invariant_of-result
invariant_of-result c =
    let p = c.args.self.now in
    rw (leads_to c)
    (omega (arith, depth-child (element_of p) (hop_of c.args.hop), depth_below p (sym c.check_room.ensures ∙ c.in_ok-check_room.was)))

pub returns : goal.returns
returns c =
    inl (rw (leads_to c, sym c.check_room.ensures ∙ c.in_ok-check_room.was) refl)
