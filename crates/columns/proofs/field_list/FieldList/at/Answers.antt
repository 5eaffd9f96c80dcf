use Rattle.std.proofs.Common.{◌<◌, ◌∙◌, ap, sym, subst, arith, length, slice_get}
use Rattle.std.specs.List.{zip}
use Rattle.semantics.specs.Elements.{Name, name_cmp}
use Rattle.version.proofs.PairedColumns.{zip-length}
use Rattle.columns.specs.Keys.{numbered}
use Rattle.columns.specs.Flagged.{Flagged}
use Rattle.columns.proofs.Placed.{value_at, value_inside, values_long}
use Rattle.columns.proofs.Zipped.{entry_at-zip}
use Rattle.columns.proofs.field_list.FieldList.at.Goals as goal

pub at-number-requires : goal.at-number-requires
at-number-requires c =
    let d = c.self.inside in
    let values = numbered 0 d.numbers.items d.keys.numbers in
    let within : c.args.position < length (zip d.keys.keys values) = subst (λ (m : Flagged Name). c.args.position < length m.entries)
    (sym c.self.view_is) c.requires in
    let long = zip-length d.keys.keys values (values_long d.keys d.numbers.items c.self.invariant.0) in
    omega arith

pub index-requires : goal.index-requires
index-requires c =
    let d = c.self.inside in
    let inside = value_inside d.keys d.numbers.items c.args.position c.at-number.result.1 c.self.invariant.0 c.at-number.ensures.number in
    omega arith

pub returns : goal.returns
returns c =
    let d = c.self.inside in
    let ns = d.numbers.items in
    let number = c.at-number.result.1 in
    ap (λ (m : Flagged Name). slice_get m.entries c.args.position) (sym c.self.view_is)
    ∙ entry_at-zip name_cmp d.keys.keys (numbered 0 ns d.keys.numbers)
    (values_long d.keys ns c.self.invariant.0) c.args.position c.at-number.result.0.now c.index.result.now c.at-number.ensures.key
    (value_at d.keys ns c.args.position number c.index.result.now c.self.invariant.0 c.at-number.ensures.number c.index.ensures)
