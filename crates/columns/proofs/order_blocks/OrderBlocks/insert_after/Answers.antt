use Rattle.std.proofs.Common.{◌≡◌, ◌∙◌, ◌<◌, ◌≤◌, ap, sym, refl, slice_get, Some, subst, length, false}
use Rattle.std.proofs.lemmas.Option.{slice_get_read}
use Rattle.semantics.specs.Context.{insert_after, has_item}
use Rattle.columns.specs.Orders.{Order}
use Rattle.columns.specs.Blocks.{GoesIn, IsBehind, ListBlock, items_at, joined, room_at}
use Rattle.columns.proofs.IndexedBlocks.{indexed_same}
use Rattle.columns.proofs.Runs.{items_here}
use Rattle.columns.proofs.Changed.{IsPlaced, item_put, room_parts, roomy, same_run}
use Rattle.columns.proofs.order_blocks.OrderBlocks.insert_after.Goals as goal

pub put-requires-2-clause-within : goal.put-requires-2-clause-within
put-requires-2-clause-within c =
    let runs = c.self.inside.blocks.items in
    let k = c.goes_to-at.result.block in
    let r = c.index_mut.result.now in
    let inside : k < length runs = subst (λ rs. k < length rs) c.deref-2.ensures.value c.goes_to-at.ensures.inside in
    let is : slice_get runs k ≡ Some r = slice_get_read runs _ k r refl inside c.index_mut.ensures.value in
    subst (λ xs. c.goes_to-at.result.index ≤ length xs)
    (ap (λ rs. items_at rs k) c.deref-2.ensures.value ∙ items_here runs k r is) c.goes_to-at.ensures.within

pub put-requires-2-clause-room : goal.put-requires-2-clause-room
put-requires-2-clause-room c =
    let d = c.self.inside in
    let runs = d.blocks.items in
    let k = c.goes_to-at.result.block in
    let r = c.index_mut.result.now in
    let inside : k < length runs = subst (λ rs. k < length rs) c.deref-2.ensures.value c.goes_to-at.ensures.inside in
    let is : slice_get runs k ≡ Some r = slice_get_read runs _ k r refl inside c.index_mut.ensures.value in
    let room = (room_parts d.homes.room (room_at runs d.last.block)
    (subst (λ (o : Order). 0 < o.room) (sym c.self.view_is) c.requires.room)).1 in
    roomy runs d.homes.entries d.last.block c.self.invariant.0 room k r is

-- all that it does, where the item goes in
done : (c : goal.After-at-1)
    → IsPlaced c.self.inside.blocks.items c.self.inside.homes.entries c.args.prev c.args.id c.goes_to-at.result.block c.index_mut.result.now
    c.put-2.new.self
done c =
    let d = c.self.inside in
    let runs = d.blocks.items in
    let a = c.args.id in
    let k = c.goes_to-at.result.block in
    let r = c.index_mut.result.now in
    let goes : GoesIn runs a c.in-Some.from.block c.in-Some.from.index k c.goes_to-at.result.index = subst
    (λ rs. GoesIn rs a c.in-Some.from.block c.in-Some.from.index k c.goes_to-at.result.index) c.deref-2.ensures.value
    c.goes_to-at.ensures in
    let behind : IsBehind runs c.args.prev c.in-Some.from.block c.in-Some.from.index = subst
    (λ rs. IsBehind rs c.args.prev c.in-Some.from.block c.in-Some.from.index) c.deref.ensures.value c.in-Some.ensures in
    let is : slice_get runs k ≡ Some r = slice_get_read runs _ k r refl goes.inside c.index_mut.ensures.value in
    let absent : has_item a (joined runs) ≡ false = ap (λ (o : Order). has_item a o.items) c.self.view_is ∙ c.requires.id in
    let room = (room_parts d.homes.room (room_at runs d.last.block)
    (subst (λ (o : Order). 0 < o.room) (sym c.self.view_is) c.requires.room)).1 in
    item_put runs d.homes.entries d.last.block c.args.prev a c.in-Some.from.block c.in-Some.from.index k
    c.goes_to-at.result.index r c.put-2.new.self c.self.invariant.0 absent room behind goes is
    c.put-2.ensures.number c.put-2.ensures.items c.put-2.ensures.flags

-- the block that it goes into is the one whose number is its home
same_block : (c : goal.After-at-1) → slice_get c.self.inside.blocks.items c.goes_to-at.result.block ≡ Some c.index_mut.result.now
    × (c.index.result.now.number ≡ c.index_mut.result.now.number)
same_block c =
    let runs = c.self.inside.blocks.items in
    let k = c.goes_to-at.result.block in
    let inside : k < length runs = subst (λ rs. k < length rs) c.deref-2.ensures.value c.goes_to-at.ensures.inside in
    let is : slice_get runs k ≡ Some c.index_mut.result.now = slice_get_read runs _ k c.index_mut.result.now refl inside
    c.index_mut.ensures.value in
    let read : slice_get runs k ≡ Some c.index.result.now = slice_get_read runs _ k c.index.result.now refl inside c.index.ensures in
    (is, ap (λ (o : ListBlock). o.number) (same_run runs k c.index.result.now c.index_mut.result.now read is))

pub invariant_of-self : goal.invariant_of-self
invariant_of-self c =
    let d = c.self.inside in
    let block = same_block c in (
      rw (c.put.ensures.entries, c.number.ensures, block.1) (done c).blocks,
      indexed_same d.blocks.items d.indices.by_number c.goes_to-at.result.block c.index_mut.result.now c.put-2.new.self block.0
          c.put-2.ensures.number
          c.self.invariant.1,
    )

pub returns-clause-items : goal.returns-clause-items
returns-clause-items c = (done c).items ∙ ap (λ (o : Order). insert_after c.args.prev c.args.id o.items) c.self.view_is

pub returns-clause-visible : goal.returns-clause-visible
returns-clause-visible c = (done c).shown ∙ ap (λ (o : Order). o.visible) c.self.view_is
