use Rattle.std.proofs.Common.{add-one, ◌≡◌, ◌∙◌, ◌+◌, ◌++◌, ◌∷◌, [], sym, ap, drop, get_or, arith, Less}
use Rattle.std.proofs.lemmas.List.{get_or_default}
use Rattle.std.specs.FinMap.Entries.{below_all}
use Rattle.semantics.specs.Ids.{OpId, id_cmp}
use Rattle.cursor.specs.declared.tag.Tag.{Tag}
use Rattle.columns.specs.ReplicaColumns.{put_each}
use Rattle.columns.proofs.Merged.{goes_before, goes_here, goes_smaller, greater_from, past_end}
use Rattle.columns.proofs.replica_columns.push_smaller.Goals as goal

pub returns-in-Equal : goal.returns-in-Equal
returns-in-Equal c = λ v es b.
    let i = c.loop-next.next in
    let m = c.args.entries.now in
    ap (λ n. c.loop-next.all.items ++ (c.args.id.now, v) ∷ put_each es (drop n m)) (add-one i)
    ∙ goes_here c.args.id.now c.loop-next.all.items m i (get_or m i c.index-entries-next.result) c.loop-next-test.true
    (ap (get_or m i) c.index-entries-next.is)
    (sym c.cmp.ensures ∙ c.in-Equal.is) v es b
    ∙ c.loop-next.invariant v es b

pub returns-in-Greater : goal.returns-in-Greater
returns-in-Greater c = λ v es b.
    let i = c.loop-next.next in
    let m = c.args.entries.now in
    goes_before c.args.id.now c.loop-next.all.items (drop i m)
    (greater_from c.args.id.now m i (get_or m i c.index-entries-next.result) c.requires c.loop-next-test.true
    (ap (get_or m i) c.index-entries-next.is)
    (sym c.cmp.ensures ∙ c.in-Greater.is)) v es b
    ∙ c.loop-next.invariant v es b

pub loop-next-preserved : goal.loop-next-preserved
loop-next-preserved c = λ v es b.
    let i = c.loop-next.next in
    let m = c.args.entries.now in
    let h : OpId × Tag = c.index-entries-next-in-Less.result in
    let same : get_or m i c.index-entries-next.result ≡ h = get_or_default m i c.index-entries-next.result h c.loop-next-test.true
    ∙ sym c.index-entries-next-in-Less.is in
    let less : id_cmp h.0 c.args.id.now ≡ Less = ap (λ (e : OpId × Tag). id_cmp e.0 c.args.id.now) (sym same)
    ∙ sym c.cmp.ensures ∙ c.in-Less.is in
    ap (λ xs. xs ++ put_each ((c.args.id.now, v) ∷ es) (drop (i + 1) m)) c.in_ok-push-in-Less.ensures.items
    ∙ ap (λ n. (c.loop-next.all.items ++ h ∷ []) ++ put_each ((c.args.id.now, v) ∷ es) (drop n m)) (add-one i)
    ∙ goes_smaller c.args.id.now c.args.all.now.items c.loop-next.all.items m i h c.loop-next-test.true c.index-entries-next-in-Less.is less
    (drop c.args.from m) c.loop-next.invariant v es b

pub returns : goal.returns
returns c = λ v es b.
    let i = c.loop-next.next in
    let m = c.args.entries.now in
    goes_before c.args.id.now c.loop-next.all.items (drop i m)
    (ap (below_all id_cmp c.args.id.now) (past_end m i (omega (arith, c.loop-next-test.false)))) v es b
    ∙ c.loop-next.invariant v es b
