use Rattle.std.proofs.Common.{◌∙◌, Some, ap, sym, arith}
use Rattle.std.specs.Prelude.{slice_get}
use Rattle.std.specs.FinMap.{find}
use Rattle.std.proofs.lemmas.Option.{slice_get_within}
use Rattle.semantics.specs.Elements.{Name, name_cmp}
use Rattle.semantics.proofs.Orders.{name_total}
use Rattle.columns.specs.Keys.{numbered}
use Rattle.columns.specs.Flagged.{Flagged}
use Rattle.columns.proofs.Placed.{value_at, value_inside, values_long}
use Rattle.columns.proofs.Zipped.{entry_at-zip, find_there-zip, find_absent-zip}
use Rattle.columns.proofs.field_list.FieldList.locate.Goals as goal

pub number-requires : goal.number-requires
number-requires c = slice_get_within c.self.inside.keys.keys c.in-Ok.position c.args.key.now c.in-Ok.ensures.0

pub index-requires : goal.index-requires
index-requires c =
    let d = c.self.inside in
    let inside = value_inside d.keys d.numbers.items c.in-Ok.position c.number.result c.self.invariant.0 c.number.ensures.number in
    omega arith

pub returns-in-Ok : goal.returns-in-Ok
returns-in-Ok c =
    let d = c.self.inside in
    let ns = d.numbers.items in
    let at = c.in-Ok.ensures in
    let long = values_long d.keys ns c.self.invariant.0 in
    let value = value_at d.keys ns c.in-Ok.position c.number.result c.index.result.now c.self.invariant.0 c.number.ensures.number
    c.index.ensures in (
      ap (λ (m : Flagged Name). slice_get m.entries c.in-Ok.position) (sym c.self.view_is)
          ∙ entry_at-zip name_cmp d.keys.keys (numbered 0 ns d.keys.numbers) long c.in-Ok.position c.args.key.now
          c.index.result.now at.0 value,
      ap (λ (m : Flagged Name). find name_cmp c.args.key.now m.entries) (sym c.self.view_is)
          ∙ find_there-zip name_cmp d.keys.keys (numbered 0 ns d.keys.numbers) long name_total c.args.key.now c.in-Ok.position
          c.index.result.now at.0 at.1
          ∙ ap Some (sym value),
    )

pub returns-in-Err : goal.returns-in-Err
returns-in-Err c =
    let d = c.self.inside in
    ap (λ (m : Flagged Name). find name_cmp c.args.key.now m.entries) (sym c.self.view_is)
    ∙ find_absent-zip name_cmp d.keys.keys (numbered 0 d.numbers.items d.keys.numbers)
    (values_long d.keys d.numbers.items c.self.invariant.0) c.args.key.now c.in-Err.field-0 c.in-Err.ensures
