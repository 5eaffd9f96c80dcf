use Rattle.std.proofs.Common.{◌∙◌, ap, sym, length}
use Rattle.std.specs.FinMap.{is_sorted}
use Rattle.semantics.specs.Elements.{Name, name_cmp}
use Rattle.version.proofs.PairedColumns.{zip-length}
use Rattle.columns.specs.Keys.{numbered}
use Rattle.columns.specs.Flagged.{Flagged}
use Rattle.columns.proofs.Placed.{values_long}
use Rattle.columns.proofs.Zipped.{rising_zip}
use Rattle.columns.proofs.field_list.FieldList.len.Goals as goal

pub returns-clause-length : goal.returns-clause-length
returns-clause-length c =
    let d = c.self.inside in
    c.len.ensures.length ∙ sym
    (zip-length d.keys.keys (numbered 0 d.numbers.items d.keys.numbers) (values_long d.keys d.numbers.items c.self.invariant.0))
    ∙ ap (λ (m : Flagged Name). length m.entries) c.self.view_is

pub returns-clause-rising : goal.returns-clause-rising
returns-clause-rising c =
    let d = c.self.inside in
    ap (λ (m : Flagged Name). is_sorted name_cmp m.entries) (sym c.self.view_is)
    ∙ rising_zip name_cmp d.keys.keys (numbered 0 d.numbers.items d.keys.numbers)
    (values_long d.keys d.numbers.items c.self.invariant.0) c.len.ensures.rising
