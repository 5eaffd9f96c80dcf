use Rattle.std.proofs.Common.{◌≡◌, ◌∙◌, sym, ap, subst, List, length, get_or, arith}
use Rattle.std.specs.Prelude.{IfOk}
use Rattle.std.specs.FinMap.{is_sorted}
use Rattle.semantics.specs.Ids.{OpId, id_cmp}
use Rattle.cursor.specs.declared.tag.Tag.{Tag}
use Rattle.columns.specs.ReplicaColumns.{is_rising, put_each, standing, tags_of}
use Rattle.columns.specs.declared.replica_column.ReplicaColumn.{ReplicaColumn}
use Rattle.columns.proofs.Merged.{merged_halves, sorted_run, tags-run}
use Rattle.columns.proofs.PutEach.{rising_each}
use Rattle.columns.proofs.replica_columns.+merge.Goals as goal

pub merge_entries-requires-clause-own : goal.merge_entries-requires-clause-own
merge_entries-requires-clause-own t c =
    let cs = c.args.columns.now in
    let column = c.index-columns-0.result in
    let one : length cs ≡ 1 = c.in-1.is in
    let x = get_or cs 0 column in
    let read : x ≡ column = sym c.index-columns-0.is in
    ap (is_sorted id_cmp) (c.deref.ensures.value ∙ c.in_ok-own-in-1.ensures
    ∙ tags-run column.replica (column.tag, column.index) column.counters.items)
    ∙ sorted_run column.replica column.tag column.counters.items
    (ap (λ (y : ReplicaColumn). is_rising y.counters.items) (sym read) ∙ c.requires.rising 0 column (omega (arith, one)))

pub merge_entries-requires-in_default-clause-own : goal.merge_entries-requires-in_default-clause-own
merge_entries-requires-in_default-clause-own t c =
    ap (is_sorted id_cmp) (c.deref-in_default.ensures.value ∙ c.in_ok-own-in_default.ensures)
    ∙ rising_each (tags_of (standing c.split_at.result.0.now)) c.new.result.items (ap (is_sorted id_cmp) c.new.ensures.items)

pub merge_entries-requires-in_default-clause-others : goal.merge_entries-requires-in_default-clause-others
merge_entries-requires-in_default-clause-others t c =
    ap (is_sorted id_cmp) (c.deref-in_default-2.ensures.value ∙ c.in_ok-others-in_default.ensures)
    ∙ rising_each (tags_of (standing c.split_at.result.1.now)) c.args.entries.items c.requires.sorted

pub returns-in_ok-others-in_default : goal.returns-in_ok-others-in_default
returns-in_ok-others-in_default t c =
    let cs = c.args.columns.now in
    let m = c.args.entries.items in
    let front = c.split_at.ensures.front in
    let back = c.split_at.ensures.back in
    subst (λ (l : List (OpId × Tag)). IfOk c.merge_entries-in_default.result (λ v. v.items ≡ l))
    ((λ i. put_each (c.deref-in_default.ensures.value i) (c.deref-in_default-2.ensures.value i))
    ∙ (λ i. put_each (c.in_ok-own-in_default.ensures i) (c.in_ok-others-in_default.ensures i))
    ∙ (λ i. put_each (put_each (tags_of (standing (front i))) (c.new.ensures.items i)) (put_each (tags_of (standing (back i))) m))
    ∙ merged_halves cs _ m c.requires.sorted) c.merge_entries-in_default.ensures
