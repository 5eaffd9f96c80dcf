use Rattle.std.proofs.Common.{add-one, ◌≡◌, ◌∙◌, ◌+◌, ◌++◌, ◌∷◌, [], suc, sym, ap, drop, get_or, List, arith}
use Rattle.std.proofs.lemmas.List.{drop_all}
use Rattle.semantics.specs.Ids.{OpId}
use Rattle.cursor.specs.declared.tag.Tag.{Tag}
use Rattle.columns.specs.ReplicaColumns.{put_each}
use Rattle.columns.proofs.Merged.{below_rest, one_more, read_drop}
use Rattle.columns.proofs.replica_columns.merge_entries.Goals as goal

pub loop-position-preserved : goal.loop-position-preserved
loop-position-preserved c =
    let es = c.args.own.now in
    let m = c.args.others.now in
    let i = c.loop-position.position in
    let h : OpId × Tag = c.index-own-position.result in
    let lt = c.loop-position-test.true in
    let read : h ≡ get_or es i h = c.index-own-position.is in
    ap (λ xs. xs ++ put_each (drop (i + 1) es) (drop c.in_ok-next.next m)) c.in_ok-push.ensures.items
    ∙ one_more c.push_smaller.new.all.items h (put_each (drop (i + 1) es) (drop c.in_ok-next.next m))
    ∙ ap (λ n. c.push_smaller.new.all.items ++ h ∷ put_each (drop n es) (drop c.in_ok-next.next m)) (add-one i)
    ∙ c.in_ok-next.ensures h.1 (drop (suc i) es) (below_rest es i h c.requires.own lt read)
    ∙ ap (λ l. c.loop-position.all.items ++ put_each l (drop c.loop-position.next m)) (sym (read_drop es i h lt read))
    ∙ c.loop-position.invariant

pub returns : goal.returns
returns c =
    let es = c.args.own.now in
    let m = c.args.others.now in
    let i = c.loop-position.position in
    let test = c.loop-position-test.false in
    let all : drop i es ≡ [] = drop_all i es (omega (arith, test)) in
    c.in_ok-push_from.ensures
    ∙ ap (λ (l : List (OpId × Tag)). c.loop-position.all.items ++ put_each l (drop c.loop-position.next m)) (sym all)
    ∙ c.loop-position.invariant
