use Rattle.std.proofs.Common.{◌≡◌, ◌∙◌, ap, sym, refl, slice_get, Some, take, rules}
use Rattle.std.proofs.lemmas.Option.{slice_get_read}
use Rattle.columns.specs.Blocks.{ListBlock}
use Rattle.semantics.specs.Context.{has_item}
use Rattle.columns.proofs.Apart.{apart_block}
use Rattle.columns.proofs.IndexedBlocks.{lacks_all, lacks_here, lacks_in_front, leads}
use Rattle.columns.proofs.Runs.{items_here}
use Rattle.columns.proofs.walks.find.Goals as goal

pub bounds-blocks-block : goal.bounds-blocks-block
bounds-blocks-block c = leads c.args.blocks.now c.args.indices.now.by_number c.requires.indexed c.args.home c.in_ok-block.block
    (sym c.of.ensures ∙ c.in_ok-block.was)

pub offset_bounds-blocks-block : goal.offset_bounds-blocks-block
offset_bounds-blocks-block c =
    let inside = leads c.args.blocks.now c.args.indices.now.by_number c.requires.indexed c.args.home c.in_ok-block.block
    (sym c.of.ensures ∙ c.in_ok-block.was) in
    search rules

pub position-requires : goal.position-requires
position-requires c =
    let runs = c.args.blocks.now in
    let k = c.in_ok-block.block in
    let inside = leads runs c.args.indices.now.by_number c.requires.indexed c.args.home k (sym c.of.ensures ∙ c.in_ok-block.was) in
    let r : ListBlock = c.index-blocks-block.result in
    apart_block runs k r c.requires.apart (slice_get_read runs _ k r refl inside c.index-blocks-block.is)

pub returns-in_err-block : goal.returns-in_err-block
returns-in_err-block c =
    rw c.from_residual.ensures
    (lacks_all c.args.blocks.now c.args.indices.now.by_number c.requires.indexed c.args.home c.args.id.now c.requires.home
    (sym c.of.ensures ∙ c.in_err-block.was))

pub returns-in_err-index : goal.returns-in_err-index
returns-in_err-index c =
    let runs = c.args.blocks.now in
    let k = c.in_ok-block.block in
    let home = sym c.of.ensures ∙ c.in_ok-block.was in
    let inside = leads runs c.args.indices.now.by_number c.requires.indexed c.args.home k home in
    let r : ListBlock = c.index-blocks-block.result in
    let is : slice_get runs k ≡ Some r = slice_get_read runs _ k r refl inside c.index-blocks-block.is in
    rw c.from_residual-in_err-index.ensures
    (lacks_here runs c.args.indices.now.by_number c.requires.indexed c.args.home c.args.id.now c.requires.home k r home is
    c.in_err-index.ensures)

pub returns : goal.returns
returns c =
    let runs = c.args.blocks.now in
    let k = c.in_ok-block.block in
    let home = sym c.of.ensures ∙ c.in_ok-block.was in
    let inside = leads runs c.args.indices.now.by_number c.requires.indexed c.args.home k home in
    let r : ListBlock = c.index-blocks-block.result in
    let is : slice_get runs k ≡ Some r = slice_get_read runs _ k r refl inside c.index-blocks-block.is in
    let here = items_here runs k r is in
    record {
      inside = inside;
      there = ap (λ xs. slice_get xs c.in_ok-index.index) here ∙ c.in_ok-index.ensures.there;
      first = lacks_in_front runs c.args.indices.now.by_number c.requires.indexed c.args.home c.args.id.now c.requires.home k home;
      first_in = ap (λ xs. has_item c.args.id.now (take c.in_ok-index.index xs)) here ∙ c.in_ok-index.ensures.first;
    }
