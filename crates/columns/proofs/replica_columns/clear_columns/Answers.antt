use Rattle.std.proofs.Common.{add-one, ◌≡◌, ◌<◌, ◌∙◌, sym, ap, subst, IsTrue, length, get_or, set, take}
use Rattle.std.proofs.Common.{arith}
use Rattle.std.specs.List.{filter}
use Rattle.std.proofs.lemmas.List.{length-set}
use Rattle.std.proofs.Math.Seq.{map-set_same}
use Rattle.version.specs.Columns.{is_uncovered}
use Rattle.columns.specs.ReplicaColumns.{is_rising, standing}
use Rattle.columns.specs.declared.replica_column.ReplicaColumn.{ReplicaColumn}
use Rattle.columns.proofs.ByReplica.{length_written}
use Rattle.columns.proofs.Counters.{rising_filter}
use Rattle.columns.proofs.StandingPuts.{all_set}
use Rattle.columns.proofs.UpTo.{up_to_set_same}
use Rattle.columns.proofs.WrittenColumns.{filter_column, filtered_all, filtered_next}
use Rattle.columns.proofs.replica_columns.clear_columns.Invariants.{stays}
use Rattle.columns.proofs.replica_columns.clear_columns.Goals as goal

pub overflow_sub-left : goal.overflow_sub-left
overflow_sub-left c =
    let cs = c.loop-place.columns in
    let i = c.loop-place.place in
    let column = get_or cs i c.index-columns-place.result in
    let read : column ≡ get_or cs i column = ap (get_or cs i) c.index-columns-place.is in
    let inv = c.loop-place.invariant in
    let count = inv.count in
    let test = c.loop-place-test.true in
    let written = length_written cs i column c.cut-left.new.self (omega (arith, count, test)) read in
    let gone = c.cut-left.ensures.gone in
    let counted = inv.counted in
    omega (arith, written, gone, counted)

pub loop-place-preserved : goal.loop-place-preserved
loop-place-preserved c =
    let cs = c.loop-place.columns in
    let v = c.args.vector.now in
    let i = c.loop-place.place in
    let d = c.cut-left.new.self in
    let column = get_or cs i c.index-columns-place.result in
    let read : column ≡ get_or cs i column = ap (get_or cs i) c.index-columns-place.is in
    let inv = c.loop-place.invariant in
    let count = inv.count in
    let test = c.loop-place-test.true in
    let lt : i < length cs = omega (arith, count, test) in
    let written = length_written cs i column d lt read in
    let gone = c.cut-left.ensures.gone in
    let counted = inv.counted in
    let same = c.cut-left.ensures.same in
    let kept = filter_column (stays v) column d same c.cut-left.ensures.counters in
    record {
      same = filtered_all (stays v) cs i column d read kept ∙ inv.same;
      so_far = subst (λ n. filter (stays v) (standing (take n (set cs i d))) ≡ standing (take n (set cs i d))) (sym (add-one i))
          (filtered_next (stays v) cs i column d lt kept inv.so_far);
      rising = all_set (λ (x : ReplicaColumn). IsTrue (is_rising x.counters.items)) cs i d inv.rising
          (ap is_rising c.cut-left.ensures.counters
          ∙ rising_filter (λ k. is_uncovered v (k, column.index)) column.counters.items
          (inv.rising i c.index-columns-place.result lt));
      within = all_set (λ (x : ReplicaColumn). 0 < length x.counters.items → x.index < length v) cs i d inv.within
          (λ some. subst (λ n. n < length v) (sym same.index) (inv.within i c.index-columns-place.result lt (omega (arith, some, gone))));
      up_to = λ m all. up_to_set_same m cs i column d lt read same.replica c.cut-left.ensures.greatest (inv.up_to m all);
      replicas = map-set_same (λ (x : ReplicaColumn). x.replica) cs i d column
          (same.replica ∙ ap (λ (x : ReplicaColumn). x.replica) read) ∙ inv.replicas;
      counted = omega (arith, written, gone, counted);
      count = length-set cs i d ∙ count;
    }
