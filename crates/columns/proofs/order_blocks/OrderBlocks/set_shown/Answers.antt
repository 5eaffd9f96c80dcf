use Rattle.std.proofs.Common.{◌≡◌, ◌∙◌, ap, sym, refl, slice_get, Some, is_some, subst, length, set, length-set, arith, true, false, cond}
use Rattle.std.proofs.Common.{rules}
use Rattle.std.specs.Prelude.{min}
use Rattle.std.specs.List.{filter}
use Rattle.std.specs.FinMap.Entries.{is_some-find}
use Rattle.std.proofs.lemmas.Option.{slice_get_read, slice_get_within}
use Rattle.semantics.specs.Ids.{id_cmp, is_same_id}
use Rattle.columns.specs.Orders.{Order}
use Rattle.semantics.specs.Context.{has_item}
use Rattle.columns.specs.Blocks.{AreBlocks, IsFound, StandsAt, joined}
use Rattle.columns.proofs.IndexedBlocks.{indexed_same}
use Rattle.columns.proofs.Runs.{items_here}
use Rattle.columns.proofs.Changed.{blocks_same, joined_same, room_same}
use Rattle.columns.proofs.ShownItems.{filter_lacking, shown_changed}
use Rattle.columns.proofs.order_blocks.OrderBlocks.set_shown.Goals as goal

pub returns-in_default-clause-visible : goal.returns-in_default-clause-visible
returns-in_default-clause-visible c = λ f e.
    let d = c.self.inside in
    let id = c.args.id.now in
    let lacks : has_item id (joined d.blocks.items) ≡ false = sym
    (ap is_some c.get.ensures ∙ is_some-find id_cmp id d.homes.entries ∙ c.self.invariant.0.at_home.only id)
    ∙ ap is_some c.in_default.is in
    e ∙ filter_lacking f id c.args.shown c.args.self.now.items (ap (λ (o : Order). has_item id o.items) (sym c.self.view_is) ∙ lacks)

pub unwrap-at-requires : goal.unwrap-at-requires
unwrap-at-requires c =
    let d = c.self.inside in
    let id = c.args.id.now in
    let there : has_item id (joined c.deref.result.now) ≡ true =
    ap (λ rs. has_item id (joined rs)) c.deref.ensures.value
    ∙ sym (ap is_some c.get.ensures ∙ is_some-find id_cmp id d.homes.entries ∙ c.self.invariant.0.at_home.only id)
    ∙ ap is_some c.in-Some.is in
    search rules

pub set_shown-requires : goal.set_shown-requires
set_shown-requires c =
    let runs = c.self.inside.blocks.items in
    let id = c.args.id.now in
    let at = c.unwrap-at.result in
    let r = c.index_mut.result.now in
    let stands : StandsAt runs id at.block at.index = subst (λ rs. StandsAt rs id at.block at.index) c.deref.ensures.value
    (subst (IsFound c.deref.result.now id) c.unwrap-at.ensures c.find.ensures) in
    let is : slice_get runs at.block ≡ Some r = slice_get_read runs _ at.block r refl stands.inside c.index_mut.ensures.value in
    slice_get_within r.items at.index id (ap (λ xs. slice_get xs at.index) (sym (items_here runs at.block r is)) ∙ stands.there)

-- where the item stands
stands : (c : goal.After-self-1)
    → StandsAt c.self.inside.blocks.items c.args.id.now c.unwrap-at.result.block c.unwrap-at.result.index
stands c =
    let id = c.args.id.now in
    let at = c.unwrap-at.result in
    subst (λ rs. StandsAt rs id at.block at.index) c.deref.ensures.value
    (subst (IsFound c.deref.result.now id) c.unwrap-at.ensures c.find.ensures)

-- the block that it stands in
here : (c : goal.After-self-1) → slice_get c.self.inside.blocks.items c.unwrap-at.result.block ≡ Some c.index_mut.result.now
here c = slice_get_read c.self.inside.blocks.items _ c.unwrap-at.result.block c.index_mut.result.now refl (stands c).inside
    c.index_mut.ensures.value

-- and has a flag for each item still
long : (c : goal.After-self-1) → length c.set_shown.new.self.flags ≡ length c.set_shown.new.self.items
long c = ap length c.set_shown.ensures.flags ∙ length-set c.index_mut.result.now.flags c.unwrap-at.result.index c.args.shown
    ∙ c.self.invariant.0.long c.unwrap-at.result.block c.index_mut.result.now (here c) ∙ ap length (sym c.set_shown.ensures.items)

-- the blocks are as they were, but for that flag
after : (c : goal.After-self-1)
    → AreBlocks (set c.self.inside.blocks.items c.unwrap-at.result.block c.set_shown.new.self) c.self.inside.homes.entries
    c.self.inside.last.block
after c =
    let d = c.self.inside in
    let same = c.set_shown.ensures.room in
    blocks_same d.blocks.items c.unwrap-at.result.block c.index_mut.result.now c.set_shown.new.self (here c) d.homes.entries d.last.block
    c.self.invariant.0 c.set_shown.ensures.number c.set_shown.ensures.items (long c) (omega (arith, same))

pub invariant_of-self : goal.invariant_of-self
invariant_of-self c = (
  after c,
  indexed_same c.self.inside.blocks.items c.self.inside.indices.by_number c.unwrap-at.result.block c.index_mut.result.now
      c.set_shown.new.self (here c) c.set_shown.ensures.number c.self.invariant.1,
)

pub returns-clause-items : goal.returns-clause-items
returns-clause-items c =
    joined_same c.self.inside.blocks.items c.unwrap-at.result.block c.index_mut.result.now c.set_shown.new.self (here c)
    c.set_shown.ensures.items
    ∙ ap (λ (o : Order). o.items) c.self.view_is

pub returns-clause-visible : goal.returns-clause-visible
returns-clause-visible c = λ f e.
    let runs = c.self.inside.blocks.items in
    let id = c.args.id.now in
    let at = c.unwrap-at.result in
    let r = c.index_mut.result.now in
    let q = c.set_shown.new.self in
    let there : slice_get r.items at.index ≡ Some id = ap (λ xs. slice_get xs at.index) (sym (items_here runs at.block r (here c)))
    ∙ (stands c).there in
    shown_changed r q at.index id c.args.shown c.set_shown.ensures.items c.set_shown.ensures.flags runs at.block f c.self.invariant.0.long
    (after c).long c.self.invariant.0.apart
    (joined_same runs at.block r q (here c) c.set_shown.ensures.items) (here c) there
    (ap (λ (o : Order). o.visible) c.self.view_is ∙ e ∙ ap (λ (o : Order). filter f o.items) (sym c.self.view_is))
    ∙ ap (λ (o : Order). filter (λ x. cond (is_same_id x id) c.args.shown (f x)) o.items) c.self.view_is

pub returns-clause-room : goal.returns-clause-room
returns-clause-room c =
    let d = c.self.inside in
    ap (λ n. min d.homes.room (min 1 n))
    (room_same d.blocks.items c.unwrap-at.result.block c.index_mut.result.now c.set_shown.new.self (here c) c.set_shown.ensures.room
    d.last.block)
    ∙ ap (λ (o : Order). o.room) c.self.view_is
