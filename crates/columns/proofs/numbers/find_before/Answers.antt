use Rattle.std.proofs.Common.{◌<◌, ◌∙◌, sym, refl, length, get_or, arith}
use Rattle.std.proofs.lemmas.List.{get_or_default}
use Rattle.semantics.specs.Ids.{OpId, id_cmp}
use Rattle.semantics.proofs.Orders.{id_total}
use Rattle.columns.specs.Rank.{keys_of}
use Rattle.columns.proofs.Ranks.{rising_keys}
use Rattle.columns.proofs.Columns.{length-keys_of}
use Rattle.columns.proofs.Halves.{halfway}
use Rattle.columns.proofs.Sought.{sought_in, sought_before, sought_behind, sought_here, sought_nowhere}
use Rattle.columns.proofs.numbers.find_before.Goals as goal

pub loop-low-init : goal.loop-low-init
loop-low-init c =
    let es = c.args.entries.now.items in
    let end = c.args.end in
    let d : OpId = record { counter = 0; replica = 0 } in
    let inside : end < length (keys_of es) = let within = c.requires.within in let long = length-keys_of es in
    omega (arith, within, long) in
    sought_before id_cmp c.args.id.now (keys_of es) 0 (length (keys_of es)) end (get_or (keys_of es) end d)
    (sought_in id_cmp c.args.id.now (keys_of es) (length (keys_of es)) refl) inside
    (λ e. get_or_default (keys_of es) end e d inside) (c.requires.before d)

pub id_at-requires : goal.id_at-requires
id_at-requires c =
    let most = c.loop-low.invariant.within in
    let long = length-keys_of c.args.entries.now.items in
    let inside = halfway c.loop-low.low c.loop-low.high c.loop-low-test.true in
    omega arith

pub loop-low-preserved-in-Less : goal.loop-low-preserved-in-Less
loop-low-preserved-in-Less c =
    sought_before id_cmp c.args.id.now
    (keys_of c.args.entries.now.items) c.loop-low.low c.loop-low.high _ c.id_at.result c.loop-low.invariant
    (halfway c.loop-low.low c.loop-low.high c.loop-low-test.true) c.id_at.ensures
    (sym c.cmp.ensures ∙ c.in-Less.is)

pub returns-in-Equal : goal.returns-in-Equal
returns-in-Equal c =
    let es = c.args.entries.now.items in
    sought_here id_cmp c.args.id.now (keys_of es) c.loop-low.low c.loop-low.high _ c.id_at.result c.loop-low.invariant
    (halfway c.loop-low.low c.loop-low.high c.loop-low-test.true) c.id_at.ensures
    id_total (rising_keys id_cmp es ∙ c.requires.rising) (sym c.cmp.ensures ∙ c.in-Equal.is)

pub loop-low-preserved : goal.loop-low-preserved
loop-low-preserved c =
    let es = c.args.entries.now.items in
    sought_behind id_cmp c.args.id.now (keys_of es) c.loop-low.low c.loop-low.high _ c.id_at.result c.loop-low.invariant
    (halfway c.loop-low.low c.loop-low.high c.loop-low-test.true) c.id_at.ensures
    id_total (rising_keys id_cmp es ∙ c.requires.rising) (sym c.cmp.ensures ∙ c.in-Greater.is)

pub returns : goal.returns
returns c =
    let es = c.args.entries.now.items in
    sought_nowhere id_cmp c.args.id.now (keys_of es) c.loop-low.low c.loop-low.high c.loop-low.invariant (omega arith) id_total
    (rising_keys id_cmp es ∙ c.requires.rising)
