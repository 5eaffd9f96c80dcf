use Rattle.std.proofs.Common.{◌∙◌, ◌≤◌, true, false, ap, sym, subst, length, arith}
use Rattle.std.specs.Prelude.{slice_get}
use Rattle.std.specs.List.{zip}
use Rattle.std.specs.FinMap.{find}
use Rattle.std.proofs.lemmas.Option.{slice_get_within}
use Rattle.semantics.specs.Elements.{Name, name_cmp}
use Rattle.semantics.proofs.Orders.{name_total}
use Rattle.version.proofs.PairedColumns.{zip-length}
use Rattle.columns.specs.Keys.{numbered}
use Rattle.columns.specs.Flagged.{Flagged}
use Rattle.columns.proofs.Marked.{find_paired}
use Rattle.columns.proofs.Placed.{values_long}
use Rattle.columns.proofs.field_list.FieldList.next_flagged.Goals as goal

pub prove-unreachable-requires : goal.prove-unreachable-requires
prove-unreachable-requires c =
    let d = c.self.inside in
    let values = numbered 0 d.numbers.items d.keys.numbers in
    let within : c.args.from ≤ length (zip d.keys.keys values) = subst (λ (m : Flagged Name). c.args.from ≤ length m.entries)
    (sym c.self.view_is) c.requires in
    let long = zip-length d.keys.keys values (values_long d.keys d.numbers.items c.self.invariant.0) in
    omega (arith, within, long)

pub next_raised-requires : goal.next_raised-requires
next_raised-requires c =
    let count = c.len.ensures.length in
    let within = c.if-prove.false in
    let wide = c.self.invariant.1 in
    omega (arith, count, within, wide)

pub returns-clause-within : goal.returns-clause-within
returns-clause-within c =
    let d = c.self.inside in
    let values = numbered 0 d.numbers.items d.keys.numbers in
    let long = zip-length d.keys.keys values (values_long d.keys d.numbers.items c.self.invariant.0) in
    let wide = c.self.invariant.1 in
    let within = c.next_raised.ensures.within in
    subst (λ (m : Flagged Name). c.next_raised.result ≤ length m.entries) c.self.view_is (omega (arith, within, long, wide))

pub returns-clause-passed : goal.returns-clause-passed
returns-clause-passed c = λ i n j low high at.
    let d = c.self.inside in
    ap (λ (m : Flagged Name). find name_cmp n m.flags) (sym c.self.view_is)
    ∙ find_paired name_cmp name_total d.keys.keys c.len.ensures.rising (numbered 0 d.numbers.items d.keys.numbers)
    (values_long d.keys d.numbers.items c.self.invariant.0) d.flags.flags c.self.invariant.1 i n j false
    (ap (λ (m : Flagged Name). slice_get m.entries i) c.self.view_is ∙ at) (c.next_raised.ensures.passed i low high)

pub returns-clause-flagged : goal.returns-clause-flagged
returns-clause-flagged c = λ n j at.
    let d = c.self.inside in
    let k = c.next_raised.result in
    let values = numbered 0 d.numbers.items d.keys.numbers in
    let there = ap (λ (m : Flagged Name). slice_get m.entries k) c.self.view_is ∙ at in
    let inside = slice_get_within (zip d.keys.keys values) k (n, j) there in
    let long = zip-length d.keys.keys values (values_long d.keys d.numbers.items c.self.invariant.0) in
    let wide = c.self.invariant.1 in
    ap (λ (m : Flagged Name). find name_cmp n m.flags) (sym c.self.view_is)
    ∙ find_paired name_cmp name_total d.keys.keys c.len.ensures.rising values
    (values_long d.keys d.numbers.items c.self.invariant.0) d.flags.flags c.self.invariant.1 k n j true there
    (c.next_raised.ensures.raised (omega (arith, inside, long, wide)))
