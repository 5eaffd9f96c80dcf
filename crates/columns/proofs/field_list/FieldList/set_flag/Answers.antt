use Rattle.std.proofs.Common.{◌∙◌, ◌<◌, ap, sym, subst, length, arith}
use Rattle.std.specs.Prelude.{slice_get}
use Rattle.std.specs.List.{zip}
use Rattle.std.specs.FinMap.{put}
use Rattle.semantics.specs.Elements.{Name, name_cmp}
use Rattle.semantics.proofs.Orders.{name_total}
use Rattle.version.proofs.PairedColumns.{zip-length}
use Rattle.columns.specs.Keys.{numbered}
use Rattle.columns.specs.Flagged.{Flagged}
use Rattle.columns.proofs.Marked.{put_paired}
use Rattle.columns.proofs.Placed.{values_long}
use Rattle.columns.proofs.field_list.FieldList.set_flag.Goals as goal

pub prove-unreachable-requires : goal.prove-unreachable-requires
prove-unreachable-requires c =
    let d = c.self.inside in
    let values = numbered 0 d.numbers.items d.keys.numbers in
    let within : c.args.position < length (zip d.keys.keys values) = subst (λ (m : Flagged Name). c.args.position < length m.entries)
    (sym c.self.view_is) c.requires in
    let long = zip-length d.keys.keys values (values_long d.keys d.numbers.items c.self.invariant.0) in
    omega (arith, within, long)

pub set-requires : goal.set-requires
set-requires c =
    let count = c.len.ensures.length in
    let within = c.if-prove.false in
    let wide = c.self.invariant.1 in
    omega (arith, count, within, wide)

pub returns-clause-flags : goal.returns-clause-flags
returns-clause-flags c = λ n i at.
    let d = c.self.inside in
    ap (zip d.keys.keys) c.set.ensures.flags
    ∙ put_paired name_cmp name_total d.keys.keys c.len.ensures.rising (numbered 0 d.numbers.items d.keys.numbers)
    (values_long d.keys d.numbers.items c.self.invariant.0) d.flags.flags c.self.invariant.1 c.args.position n i c.args.flag
    (ap (λ (m : Flagged Name). slice_get m.entries c.args.position) c.self.view_is ∙ at)
    ∙ ap (λ (m : Flagged Name). put name_cmp n c.args.flag m.flags) c.self.view_is
