use Rattle.std.proofs.Common.{rules, ◌≡◌, ◌≤◌, ◌*◌, ◌∙◌, length, ap, arith}
use Rattle.std.specs.List.{insert}
use Rattle.std.proofs.lemmas.List.{with_items_is}
use Rattle.rings.specs.Rings.{straight, IsClosed}
use Rattle.rings.specs.Starts.{starts_of}
use Rattle.rings.proofs.Straight.{straight-insert}
use Rattle.rings.proofs.Slots.{closed_same}
use Rattle.rings.proofs.rings.insert_in.Goals as goal

pub returns-clause-items : goal.returns-clause-items
returns-clause-items g c =
    let slots = c.make_way-at.new.slots in
    let starts = starts_of c.make_way-at.new.starts in
    let at = c.make_way-at.result.0 in
    let item = c.make_way-at.result.1 in
    let front = with_items_is c.args.slots.now slots (c.make_way-at.auto.slots ∙ c.deref_mut.ensures.len) in
    let put : c.insert_reserved.new.items.items ≡ insert slots at item = c.insert_reserved.ensures.items
    ∙ (λ t. insert (front t) at item) in
    let closed : IsClosed 2048 starts (starts_of c.close_ring.new.starts) c.len.result = c.close_ring.ensures.closed in
    let count : length c.insert_reserved.new.items.items ≡ c.len.result = search rules in
    let full : length starts * 2048 ≤ length slots = let a = c.make_way-at.ensures.starts in let b = c.make_way-at.ensures.slots in
    let d = ap length c.deref_mut.ensures.value in let h = c.requires.rings.full in omega (arith, a, b, d, h) in
    let behind : length starts * 2048 ≤ at = let a = c.make_way-at.ensures.starts in let h = c.make_way-at.ensures.behind in
    omega (arith, a, h) in
    closed_same starts (starts_of c.close_ring.new.starts) c.insert_reserved.new.items.items c.len.result count closed
    ∙ ap (λ xs. straight 2048 starts xs) put
    ∙ straight-insert 2048 starts slots at item full behind
    ∙ c.make_way-at.ensures.items
    ∙ ap (λ xs. insert (straight 2048 (starts_of c.args.starts.now) xs) c.args.position c.args.value) c.deref_mut.ensures.value
