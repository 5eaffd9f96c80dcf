use Rattle.std.proofs.Common.{◌≡◌, Err, List, [], ◌∷◌, map, sym, ap, ◌∙◌, subst}
use Rattle.std.specs.Vec.Iter.{into_iter_items}
use Rattle.std.proofs.lemmas.List.{nil_from_length}
use Rattle.semantics.specs.Elements.{Doc, Place}
use Rattle.semantics.specs.Paths.{down}
use Rattle.operation.specs.cursor.Steps.{hop_of}
use Rattle.wire.specs.Forms.{IsOrNoMemory}
use Rattle.wire.specs.declared.places.Part.{Part}
use Rattle.wire.specs.declared.places.WrittenKey.{WrittenKey}
use Rattle.wire.specs.Parts.{entered_as, key_meant, part_meant}
use Rattle.wire.specs.Places.{place_below}
use Rattle.wire.proofs.ReadPlaces.{lost, passed_on}
use Rattle.wire.proofs.places.place_of.Goals as goal

pub returns-in_err-enter : goal.returns-in_err-enter
returns-in_err-enter c =
    let e = down Doc (map hop_of c.loop-part.hops.items) in
    let t = entered_as c.loop-part.entered in
    let steps : into_iter_items c.loop-part.part-iterator ≡ c.in-Some.part ∷ into_iter_items c.next.new.self = c.in-Some.ensures.steps.0 in
    let here = lost e t (part_meant c.in-Some.part) (map part_meant (into_iter_items c.next.new.self))
    (key_meant c.args.last) c.in_err-enter.field-0.0 c.in_err-enter.ensures.element in
    passed_on c.from_residual.result c.in_err-enter.field-0.0 _ c.from_residual.ensures.1
    (subst (λ r. IsOrNoMemory {T = Place} (Err c.in_err-enter.field-0.0) r)
    (ap (λ (ps : List Part). place_below e t (map part_meant ps) (key_meant c.args.last)) (sym steps) ∙ c.loop-part.invariant.left)
    here)

pub returns : goal.returns
returns c =
    let e = down Doc (map hop_of c.loop-part.hops.items) in
    let t = entered_as c.loop-part.entered in
    let empty : into_iter_items c.loop-part.part-iterator
    ≡ [] = nil_from_length _ (sym c.loop-part.invariant.whole ∙ c.in-None.ensures.steps.0) in
    subst (λ r. IsOrNoMemory {T = Place} c.place_at_last.result r)
    (ap (λ (k : WrittenKey). place_below e t [] (key_meant k)) c.loop-part.invariant.kept
    ∙ ap (λ (ps : List Part). place_below e t (map part_meant ps) (key_meant c.args.last)) (sym empty)
    ∙ c.loop-part.invariant.left)
    c.place_at_last.ensures
