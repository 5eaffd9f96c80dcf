use Rattle.std.proofs.Common.{[], ◌∷◌, ◌++◌, map, sym, ap, ◌∙◌}
use Rattle.std.proofs.lemmas.List.{map-append}
use Rattle.operation.specs.cursor.Steps.{hop_of}
use Rattle.tree.proofs.Slots.{head_slot, item_slot}
use Rattle.tree.proofs.insert.slot_of.Goals as goal

pub returns-then-is_head : goal.returns-then-is_head
returns-then-is_head c = sym (head_slot c.args.place.now (map hop_of c.hops-path.result.now) (sym c.if-is_head.ensures) c.hops-path.ensures)

pub returns-in-Some-Item-default : goal.returns-in-Some-Item-default
returns-in-Some-Item-default c =
    let list = c.in-Some-Item-default.list.now in
    let a = c.in-Some-Item-default.prev in
    let last = ap (λ h. map hop_of list ++ hop_of h ∷ []) c.in-Some-Item-default.field-0-0-is in
    sym (item_slot c.args.place.now (map hop_of list) a (sym c.if-is_head.ensures)
    (sym last ∙ sym (map-append hop_of list (c.in-Some-Item-default.field-0-0.now ∷ []))
    ∙ sym (ap (map hop_of) c.in-Some-Item-default.ensures.cases.0) ∙ c.hops-path.ensures))
