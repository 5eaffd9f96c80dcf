use Rattle.std.proofs.Common.{◌∙◌, sym, arith}
use Rattle.semantics.specs.Ids.{id_cmp}
use Rattle.semantics.proofs.Orders.{id_total}
use Rattle.columns.specs.Rank.{keys_of}
use Rattle.columns.specs.Entries.{entries_of}
use Rattle.columns.proofs.Ranks.{rising_keys}
use Rattle.columns.proofs.Columns.{length-entries_of, length-keys_of}
use Rattle.columns.proofs.Halves.{halfway}
use Rattle.columns.proofs.Sought.{sought_in, sought_before, sought_behind, sought_here, sought_nowhere}
use Rattle.columns.proofs.entry_list.find_id.Goals as goal

pub loop-low-init : goal.loop-low-init
loop-low-init g c =
    let es = entries_of c.args.entries.now.items in
    sought_in id_cmp c.args.id (keys_of es) c.len-high.result
    (c.len-high.ensures.length ∙ sym (length-keys_of es ∙ length-entries_of c.args.entries.now.items))

pub id_at-requires : goal.id_at-requires
id_at-requires g c =
    let most = c.loop-low.invariant.within in
    let long = length-keys_of (entries_of c.args.entries.now.items) ∙ length-entries_of c.args.entries.now.items in
    let inside = halfway c.loop-low.low c.loop-low.high c.loop-low-test.true in
    omega arith

pub loop-low-preserved-in-Less : goal.loop-low-preserved-in-Less
loop-low-preserved-in-Less g c =
    let es = entries_of c.args.entries.now.items in
    sought_before id_cmp c.args.id (keys_of es) c.loop-low.low c.loop-low.high _ c.id_at.result c.loop-low.invariant
    (halfway c.loop-low.low c.loop-low.high c.loop-low-test.true) c.id_at.ensures
    (sym c.cmp.ensures ∙ c.in-Less.is)

pub returns-in-Equal : goal.returns-in-Equal
returns-in-Equal g c =
    let es = entries_of c.args.entries.now.items in
    sought_here id_cmp c.args.id (keys_of es) c.loop-low.low c.loop-low.high _ c.id_at.result c.loop-low.invariant
    (halfway c.loop-low.low c.loop-low.high c.loop-low-test.true) c.id_at.ensures
    id_total (rising_keys id_cmp es ∙ c.requires) (sym c.cmp.ensures ∙ c.in-Equal.is)

pub loop-low-preserved : goal.loop-low-preserved
loop-low-preserved g c =
    let es = entries_of c.args.entries.now.items in
    sought_behind id_cmp c.args.id (keys_of es) c.loop-low.low c.loop-low.high _ c.id_at.result c.loop-low.invariant
    (halfway c.loop-low.low c.loop-low.high c.loop-low-test.true) c.id_at.ensures
    id_total (rising_keys id_cmp es ∙ c.requires) (sym c.cmp.ensures ∙ c.in-Greater.is)

pub returns : goal.returns
returns g c =
    let es = entries_of c.args.entries.now.items in
    sought_nowhere id_cmp c.args.id (keys_of es) c.loop-low.low c.loop-low.high c.loop-low.invariant (omega arith) id_total
    (rising_keys id_cmp es ∙ c.requires)
