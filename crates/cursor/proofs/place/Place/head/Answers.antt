-- The head of the list here, where there is room.
use Rattle.std.proofs.Common.{◌≡◌, map, Ok, inl, sym, ap, ◌∙◌, arith}
use Rattle.std.specs.List.{each_same}
use Rattle.semantics.specs.Elements.{Doc, HeadOf}
use Rattle.semantics.specs.Operations.{element_of}
use Rattle.semantics.specs.Paths.{down}
use Rattle.semantics.proofs.ElementPaths.{down-hops_from_root}
use Rattle.cursor.specs.Steps.{hop_of}
use Rattle.cursor.proofs.Below.{depth_below, step_from-Idx}
use Rattle.cursor.proofs.place.Place.head.Goals as goal

leads_to : (c : goal.In_ok-from_clones) → down Doc (map hop_of c.in_ok-from_clones.field-0.items) ≡ element_of c.args.self.now
leads_to c =
    ap (λ hops. down Doc (map hop_of hops)) (each_same _ _ c.in_ok-from_clones.ensures.items)
    ∙ ap (down Doc) c.hops.ensures
    ∙ down-hops_from_root (element_of c.args.self.now)

pub invariant_of-result : goal.invariant_of-result
invariant_of-result c =
    rw (leads_to c) (omega (arith, depth_below c.args.self.now (sym c.check_room.ensures ∙ c.in_ok-check_room.was)))

pub returns : goal.returns
returns c items =
    inl (ap (λ e. Ok (HeadOf e)) (leads_to c)
    ∙ sym (step_from-Idx items c.args.self.now (sym c.check_room.ensures ∙ c.in_ok-check_room.was)))
