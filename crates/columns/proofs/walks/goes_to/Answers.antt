use Rattle.std.proofs.Common.{◌≡◌, ◌<◌, ◌≤◌, ◌-◌, refl, slice_get, Some, subst, length, arith}
use Rattle.std.proofs.lemmas.Option.{slice_get_read}
use Rattle.columns.proofs.Runs.{items_here}
use Rattle.columns.proofs.Walked.{come_in, come_on, come_out}
use Rattle.columns.proofs.walks.goes_to.Goals as goal

pub first_smaller-requires : goal.first_smaller-requires
first_smaller-requires c =
    let runs = c.args.blocks.now in
    let k = c.loop-block.block in
    let r = c.index-blocks-block.result in
    let is : slice_get runs k ≡ Some r = slice_get_read runs _ k r refl c.loop-block-test.true c.index-blocks-block.is in
    subst (λ xs. c.loop-block.start ≤ length xs) (items_here runs k r is) (c.loop-block.invariant.within c.loop-block-test.true)

pub returns-in-Some : goal.returns-in-Some
returns-in-Some c =
    let runs = c.args.blocks.now in
    let k = c.loop-block.block in
    let r = c.index-blocks-block.result in
    let is : slice_get runs k ≡ Some r = slice_get_read runs _ k r refl c.loop-block-test.true c.index-blocks-block.is in
    come_in runs c.args.id.now c.args.from.block c.args.from.index k c.loop-block.start r is c.loop-block.invariant c.in-Some.index
    c.in-Some.ensures

pub loop-block-preserved : goal.loop-block-preserved
loop-block-preserved c =
    let runs = c.args.blocks.now in
    let k = c.loop-block.block in
    let r = c.index-blocks-block.result in
    let is : slice_get runs k ≡ Some r = slice_get_read runs _ k r refl c.loop-block-test.true c.index-blocks-block.is in
    come_on runs c.args.id.now c.args.from.block c.args.from.index k c.loop-block.start r is c.loop-block.invariant c.in_default.ensures

pub returns : goal.returns
returns c =
    let runs = c.args.blocks.now in
    let r = c.index-blocks-last.result in
    let some = c.requires.inside in
    let inside : length runs - 1 < length runs = omega (arith, some) in
    let is : slice_get runs (length runs - 1) ≡ Some r = slice_get_read runs _ (length runs - 1) r refl inside c.index-blocks-last.is in
    rw c.len.ensures.items
    (come_out runs c.args.id.now c.args.from.block c.args.from.index c.loop-block.block c.loop-block.start
    (length runs - 1) r c.loop-block-test.false is (omega (arith, some)) c.loop-block.invariant)
