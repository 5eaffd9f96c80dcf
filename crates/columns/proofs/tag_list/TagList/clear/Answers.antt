use Rattle.std.proofs.Common.{◌≤◌, ◌∙◌, length, ap, sym, arith}
use Rattle.version.specs.Columns.{is_uncovered}
use Rattle.columns.specs.Kinds.{stands_as}
use Rattle.columns.proofs.StandingTags.{none_went}
use Rattle.columns.proofs.tag_list.TagList.clear.Goals as goal

pub invariant_of-self-else-len-count : goal.invariant_of-self-else-len-count
invariant_of-self-else-len-count c = λ t.
    let old = c.self.inside.entries in
    let new = c.clear.new.self in
    let all : length old.entries ≤ length new.entries =
    (let count = c.len-count.ensures.length in let stay = c.len.ensures.length in let h = c.if-len-count.false in
    omega (arith, count, stay, h)) in
    c.self.invariant t
    ∙ ap (stands_as t) (sym (none_went (λ e. is_uncovered c.args.vector.now (e.0.0.counter, e.1)) old.entries new.entries old.indices
    new.indices c.clear.ensures.kept c.len-count.ensures.indexed c.len.ensures.indexed all))
