use Rattle.std.proofs.Common.{◌∙◌, length, refl, sym, arith}
use Rattle.std.proofs.lemmas.Option.{slice_get_read}
use Rattle.rings.specs.Rings.{straight}
use Rattle.rings.proofs.Straight.{length-straight}
use Rattle.rings.proofs.Slots.{meets_slot}
use Rattle.rings.proofs.rings.item.Goals as goal

pub bounds-slots-slot_of : goal.bounds-slots-slot_of
bounds-slots-slot_of g c =
    (meets_slot c.args.starts.now c.args.slots.now c.args.position c.slot_of.result c.requires.rings c.requires.within
    c.slot_of.ensures).inside

pub offset_bounds-slots-slot_of : goal.offset_bounds-slots-slot_of
offset_bounds-slots-slot_of g c =
    let h =
    (meets_slot c.args.starts.now c.args.slots.now c.args.position c.slot_of.result c.requires.rings c.requires.within
    c.slot_of.ensures).inside in
    omega (arith, h)

pub returns : goal.returns
returns g c =
    let starts = c.args.starts.now in
    let slots = c.args.slots.now in
    let x = c.index-slots-slot_of.result in
    let meets = meets_slot starts slots c.args.position c.slot_of.result c.requires.rings c.requires.within c.slot_of.ensures in
    let long = length-straight 2048 starts slots in
    slice_get_read (straight 2048 starts slots) (length (straight 2048 starts slots)) c.args.position x refl
    (let w = c.requires.within in omega (arith, long, w)) (c.index-slots-slot_of.is ∙ sym (meets.get x))
