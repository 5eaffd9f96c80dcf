use Rattle.std.proofs.Common.{◌≡◌, true, false, inl, sym, ◌∙◌, arith}
use Rattle.wire.specs.Parts.{entered_as, key_meant}
use Rattle.wire.specs.Places.{is_list_head}
use Rattle.wire.proofs.ReadPlaces.{element_within, head_within, keys_before_head}
use Rattle.wire.proofs.places.place_at_last.Goals as goal

pub returns-then-is_list_head : goal.returns-then-is_list_head
returns-then-is_list_head c =
    let test : is_list_head (entered_as c.args.entered) (key_meant c.args.last) ≡ true = sym c.is_list_head.ensures
    ∙ c.if-is_list_head.true in
    let ahead = keys_before_head c.args.entered (key_meant c.args.last) test in
    rw test (inl (c.new.ensures ∙ head_within c.args.hops.items (omega (arith, ahead, c.requires))))

pub returns : goal.returns
returns c =
    let test : is_list_head (entered_as c.args.entered) (key_meant c.args.last) ≡ false = sym c.is_list_head.ensures
    ∙ c.if-is_list_head.false in
    rw (test, c.in_ok-enter.ensures.element)
    (inl (c.new-2.ensures ∙ element_within c.enter.new.hops.items (omega (arith, c.in_ok-enter.ensures.length, c.requires))))
