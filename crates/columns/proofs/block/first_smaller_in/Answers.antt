use Rattle.std.proofs.Common.{◌≡◌, refl, true, false, rules}
use Rattle.semantics.specs.Ids.{is_smaller_id}
use Rattle.std.proofs.lemmas.Option.{slice_get_read}
use Rattle.columns.proofs.InBlock.{end_here, pass_on, start_here, stop_here}
use Rattle.columns.proofs.block.first_smaller_in.Goals as goal

pub loop-index-init : goal.loop-index-init
loop-index-init c = start_here c.args.id.now c.args.ids.now c.args.from

pub returns-then-lt : goal.returns-then-lt
returns-then-lt c =
    let xs = c.args.ids.now in
    let x = c.index-ids-index.result in
    stop_here c.args.id.now xs c.args.from c.loop-index.index x
    (slice_get_read xs _ c.loop-index.index x refl c.loop-index-test.true c.index-ids-index.is)
    (let smaller : is_smaller_id x c.args.id.now ≡ true = search rules in smaller) c.loop-index.invariant

pub loop-index-preserved : goal.loop-index-preserved
loop-index-preserved c =
    let xs = c.args.ids.now in
    let x = c.index-ids-index.result in
    pass_on c.args.id.now xs c.args.from c.loop-index.index x
    (slice_get_read xs _ c.loop-index.index x refl c.loop-index-test.true c.index-ids-index.is)
    (let greater : is_smaller_id x c.args.id.now ≡ false = search rules in greater) c.loop-index.invariant

pub returns : goal.returns
returns c = end_here c.args.id.now c.args.ids.now c.args.from c.loop-index.index c.loop-index-test.false c.loop-index.invariant
