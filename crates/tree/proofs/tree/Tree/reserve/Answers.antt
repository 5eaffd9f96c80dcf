use Rattle.std.proofs.Common.{◌≡◌, ℕ, ◌≤◌, List, length, refl, sym, subst, arith}
use Rattle.std.proofs.lemmas.Result.{on_ok_weaker}
use Rattle.operation.proofs.version.WidenedColumns.{no_narrower, wide_enough}
use Rattle.tree.specs.declared.node.Node.{Node}
use Rattle.tree.specs.Nested.{IsNested}
use Rattle.tree.specs.Nodes.{Kept}
use Rattle.tree.specs.Trees.{IsPlanted}
use Rattle.tree.proofs.Grown.{kept_empty, kept_shown}
use Rattle.tree.proofs.tree.Tree.reserve.Goals as goal

-- nodes that are kept, and a table and a column that stay, or grow by nothing that is named
kept_planted : (table numbers column wider : List ℕ) (ns ms : List Node) → Kept ns ms → IsPlanted table ns column → numbers ≡ table
    → length table ≤ length wider → IsPlanted numbers ms wider
kept_planted table numbers column wider ns ms kept p same wide = subst (λ t. IsPlanted t ms wider) (sym same) (record {
  distinct = p.distinct;
  tree = kept.tree;
  nested = subst IsNested (sym kept.same) p.nested;
  shown = kept_shown ns ms kept p.shown;
  empty = kept_empty ns ms kept p.empty;
  indexed = kept.indexed table p.indexed;
  wide = wide;
})

pub invariant_of-self : goal.invariant_of-self
invariant_of-self c = kept_planted _ _ _ _ _ _ c.reserve_operation.ensures.kept c.self.invariant refl c.self.invariant.wide

pub invariant_of-self-in_err-reserve_one : goal.invariant_of-self-in_err-reserve_one
invariant_of-self-in_err-reserve_one c = kept_planted _ _ _ _ _ _ c.reserve_operation.ensures.kept c.self.invariant
    c.reserve_one.ensures.numbers c.self.invariant.wide

pub invariant_of-self-2 : goal.invariant_of-self-2
invariant_of-self-2 c = kept_planted _ _ _ _ _ _ c.reserve_operation.ensures.kept c.self.invariant c.reserve_one.ensures.numbers
    (let more = no_narrower _ c.self.inside.column c.widen.new.self c.widen.result c.widen.ensures.widened c.widen.ensures.same in
    let wide = c.self.invariant.wide in omega (arith, more, wide))

pub returns-clause-room : goal.returns-clause-room
returns-clause-room c = on_ok_weaker c.widen.result
    (λ is. (let wide = wide_enough _ c.self.inside.column c.widen.new.self is in let room = c.in_ok-reserve_one.ensures.room in
    let count = c.len.ensures.length in omega (arith, wide, room, count))) c.widen.ensures.widened
