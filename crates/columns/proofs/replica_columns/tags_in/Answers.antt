use Rattle.std.proofs.Common.{add-one, ◌≡◌, ◌<◌, ◌∙◌, ◌+◌, ◌++◌, ◌∷◌, [], ℕ, sym, ap, drop, get_or, length, List, append-nil, arith}
use Rattle.std.proofs.lemmas.List.{drop_all}
use Rattle.semantics.specs.Ids.{id_at}
use Rattle.columns.proofs.Merged.{next_run, one_more, tagged_run, tags-run}
use Rattle.columns.proofs.replica_columns.tags_in.Goals as goal

pub loop-position-preserved : goal.loop-position-preserved
loop-position-preserved c =
    let ks = c.args.column.now.counters.items in
    let p = c.args.column.now.replica in
    let t = c.args.column.now.tag in
    let i = c.loop-position.position in
    let k : ℕ = c.at-counter.result in
    let test = c.loop-position-test.true in
    let end = c.len-position-end.ensures in
    let lt : i < length ks = omega (arith, test, end) in
    let read : k ≡ get_or ks i k = c.at-counter.ensures k in
    ap (λ xs. xs ++ tagged_run p t (drop (i + 1) ks)) c.in_ok-push.ensures.items
    ∙ one_more c.loop-position.tags.items (id_at k p, t) (tagged_run p t (drop (i + 1) ks))
    ∙ ap (λ n. c.loop-position.tags.items ++ (id_at k p, t) ∷ tagged_run p t (drop n ks)) (add-one i)
    ∙ ap (λ l. c.loop-position.tags.items ++ l) (sym (next_run p t ks i k lt read))
    ∙ c.loop-position.invariant

pub returns : goal.returns
returns c =
    let ks = c.args.column.now.counters.items in
    let p = c.args.column.now.replica in
    let t = c.args.column.now.tag in
    let i = c.loop-position.position in
    let test = c.loop-position-test.false in
    let end = c.len-position-end.ensures in
    let all : drop i ks ≡ [] = drop_all i ks (omega (arith, test, end)) in
    sym (append-nil c.loop-position.tags.items)
    ∙ ap (λ (js : List ℕ). c.loop-position.tags.items ++ tagged_run p t js) (sym all)
    ∙ c.loop-position.invariant
    ∙ sym (tags-run p (t, c.args.column.now.index) ks)
