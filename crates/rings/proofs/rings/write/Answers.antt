use Rattle.std.proofs.Common.{rules, ◌≡◌, ◌<◌, ◌∙◌, length, get_or, set, refl, sym, ap, arith}
use Rattle.std.proofs.lemmas.Option.{slice_get_read}
use Rattle.rings.specs.Rings.{straight}
use Rattle.rings.proofs.Straight.{length-straight}
use Rattle.rings.proofs.Slots.{meets_slot}
use Rattle.rings.proofs.rings.write.Goals as goal

pub bounds-slots-slot : goal.bounds-slots-slot
bounds-slots-slot g c =
    (meets_slot c.args.starts.now c.args.slots.now c.args.position c.slot_of-slot.result c.requires.rings c.requires.within
    c.slot_of-slot.ensures).inside

pub offset_bounds-slots-slot : goal.offset_bounds-slots-slot
offset_bounds-slots-slot g c =
    let h : c.slot_of-slot.result < length c.args.slots.now =
    (meets_slot c.args.starts.now c.args.slots.now c.args.position c.slot_of-slot.result c.requires.rings c.requires.within
    c.slot_of-slot.ensures).inside in
    search rules

pub returns-clause-items : goal.returns-clause-items
returns-clause-items g c =
    let meets = meets_slot c.args.starts.now c.args.slots.now c.args.position c.slot_of-slot.result c.requires.rings c.requires.within
    c.slot_of-slot.ensures in
    ap (λ x. straight 2048 c.args.starts.now (set c.args.slots.now c.slot_of-slot.result x)) c.replace.ensures.after
    ∙ meets.set c.args.value

pub returns-clause-value : goal.returns-clause-value
returns-clause-value g c =
    let starts = c.args.starts.now in
    let slots = c.args.slots.now in
    let x = c.replace.result in
    let meets = meets_slot starts slots c.args.position c.slot_of-slot.result c.requires.rings c.requires.within c.slot_of-slot.ensures in
    let long = length-straight 2048 starts slots in
    let read : x ≡ get_or slots c.slot_of-slot.result x = search rules in
    slice_get_read (straight 2048 starts slots) (length (straight 2048 starts slots)) c.args.position x refl
    (let w = c.requires.within in omega (arith, long, w)) (read ∙ sym (meets.get x))
