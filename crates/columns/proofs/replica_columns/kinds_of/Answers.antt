use Rattle.std.proofs.Common.{add-one, ◌||◌, ◌∙◌, suc, sym, ap, drop}
use Rattle.std.proofs.Math.Bool.{or_assoc}
use Rattle.columns.specs.Kinds.{has_kind}
use Rattle.columns.specs.ReplicaColumns.{standing, standing_in, stands_in}
use Rattle.columns.proofs.KindsInColumns.{stands-behind}
use Rattle.columns.proofs.replica_columns.kinds_of.Goals as goal

pub loop-place-preserved : goal.loop-place-preserved
loop-place-preserved c = λ t.
    let cs = c.args.columns.now in
    let i = c.loop-place.place in
    let column = c.index-columns-place.result in
    let rest = stands_in t (standing (drop (suc i) cs)) in
    ap (λ n. has_kind c.with_column-all.result t || stands_in t (standing (drop n cs))) (add-one i)
    ∙ ap (λ b. b || rest) (c.with_column-all.ensures t)
    ∙ or_assoc (has_kind c.loop-place.all t) (stands_in t (standing_in column)) rest
    ∙ ap (λ b. has_kind c.loop-place.all t || b)
    (sym (stands-behind t cs i column c.loop-place-test.true c.index-columns-place.is))
    ∙ c.loop-place.invariant t
