use Rattle.std.proofs.Common.{◌≡◌, ◌<◌, ◌≤◌, ◌+◌, ◌-◌, ◌*◌, ◌/◌, ◌%◌, ◌∙◌, ℕ, length, ap, arith}
use Rattle.std.specs.List.{insert}
use Rattle.rings.specs.Rings.{straight}
use Rattle.rings.proofs.Straight.{length-straight}
use Rattle.rings.proofs.Around.{around_slots}
use Rattle.rings.proofs.Pushed.{straight_pushed}
use Rattle.rings.proofs.Sunk.{straight_sunk}
use Rattle.rings.proofs.rings.push_at.Goals as goal

pub returns-then-place-clause-items : goal.returns-then-place-clause-items
returns-then-place-clause-items g c =
    let starts = c.turn-last.new.starts in
    let slots = c.turn-last.new.slots in
    let old = straight 2048 c.args.starts.now c.args.slots.now in
    let k : ℕ = c.args.position / 2048 in
    let o : ℕ = c.args.position % 2048 in
    let rings = c.turn-last.ensures.starts in
    let count = c.turn-last.ensures.slots in
    let all = length-straight 2048 c.args.starts.now c.args.slots.now in
    let inside : k < length starts = let h = c.requires.position in omega (arith, h, rings) in
    let full : length starts * 2048 ≤ length slots = let h = c.requires.rings.full in omega (arith, h, rings, count) in
    let within : k * 2048 ≤ length old = omega (arith, all, count, full, inside) in
    let here : k * 2048 + o ≡ c.args.position = omega arith in
    straight_sunk 2048 starts slots c.sink.new.ring old k (k * 2048) (k * 2048 + 2048 - k * 2048) o c.args.value c.turn-last.result
    (around_slots starts slots k inside full) (omega arith) c.sink.ensures.length c.sink.ensures.items within c.turn-last.ensures.items
    ∙ ap (λ i. insert old i c.args.value) here

pub returns-clause-items : goal.returns-clause-items
returns-clause-items g c =
    let starts = c.args.starts.now in
    let slots = c.args.slots.now in
    let k : ℕ = c.args.position / 2048 in
    let o : ℕ = c.args.position % 2048 in
    let inside : k < length starts = let h = c.requires.position in omega (arith, h) in
    let here : k * 2048 + o ≡ c.args.position = omega arith in
    straight_pushed 2048 starts slots c.push_into.new.ring k (k * 2048) (k * 2048 + 2048 - k * 2048) o c.args.value c.push_into.result
    (around_slots starts slots k inside c.requires.rings.full) (omega arith) c.push_into.ensures.length c.push_into.ensures.items
    ∙ ap (λ i. insert (straight 2048 starts slots) i c.args.value) here
