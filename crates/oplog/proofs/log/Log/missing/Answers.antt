use Rattle.std.proofs.Common.{◌∙◌, sym, ap, subst, length, map, take, arith}
use Rattle.std.proofs.lemmas.List.{length-take, take-map}
use Rattle.std.specs.List.Sorted.{IsPermutation}
use Rattle.ids.specs.declared.id.OpId.{OpId}
use Rattle.semantics.specs.Vectors.{at}
use Rattle.columns.specs.Numbered.{Numbered}
use Rattle.oplog.specs.Logs.{Logged, history, missing_positions, numbers_above, numbers_of}
use Rattle.oplog.proofs.Missing.{sorted-missing}
use Rattle.oplog.proofs.Positions.{enough_columns}
use Rattle.oplog.proofs.JoinedTables.{own_columns}
use Rattle.oplog.proofs.log.Log.missing.Goals as goal

pub positions_above-requires : goal.positions_above-requires
positions_above-requires c =
    let d = c.self.inside in
    let enough = enough_columns (history d.entries.items) d.table.numbers d.positions.items c.self.invariant.positions_are in
    let taken = length-take c.len.result c.deref.result.now in
    let value = ap length c.deref.ensures.value in
    let count = c.len.ensures.length in
    omega (arith, enough, taken, value, count)

pub returns : goal.returns
returns c =
    let d = c.self.inside in
    let v = c.args.vector.now in
    let ps = d.table.numbers in
    let positions = c.sort_unstable.new.self.items in
    let above = c.in_ok-positions.ensures
    ∙ ap (numbers_above (map (at v) ps)) ((λ t. numbers_of (take (c.len.ensures.length t) (c.deref.ensures.value t)))
    ∙ sym (take-map (λ (n : Numbered OpId). n.entries) (length ps) d.positions.items) ∙ ap (take (length ps)) c.self.invariant.positions_are
    ∙ own_columns (history d.entries.items) ps _) in
    sorted-missing ps v
    (history d.entries.items) positions c.self.invariant.distinct c.self.invariant.members c.self.invariant.own_ids
    (subst (λ l. IsPermutation l positions) above c.sort_unstable.ensures.permutation) c.sort_unstable.ensures.sorted
    ∙ ap (λ (l : Logged). missing_positions v l.entries) c.self.view_is
