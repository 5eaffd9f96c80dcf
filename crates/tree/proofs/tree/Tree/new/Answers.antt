use Rattle.std.proofs.Common.{◌≡◌, ◌≤◌, ◌∷◌, ◌++◌, [], length, sym, ap, ◌∙◌, subst, arith}
use Rattle.std.proofs.lemmas.List.{length-replicate}
use Rattle.tree.specs.Nodes.{context}
use Rattle.tree.specs.Trees.{IsPlanted}
use Rattle.tree.proofs.Roots.{root_empty, root_planted}
use Rattle.tree.proofs.tree.Tree.new.Goals as goal

pub invariant_of-result : goal.invariant_of-result
invariant_of-result c =
    let table = c.in_ok-table.table.numbers in
    let one : c.push.new.self.items ≡ c.new.result ∷ [] = c.in_ok-push.ensures.items
    ∙ ap (λ ns. ns ++ c.new.result ∷ []) c.new-nodes.ensures.items in
    let column : length c.in_ok-column.column ≡ c.len.result = ap length c.in_ok-column.ensures ∙ length-replicate _ 0 in
    let wide : length table ≤ length c.in_ok-column.column = (let n = c.len.ensures.length in omega (arith, column, n)) in
    subst (λ ns. IsPlanted table ns c.in_ok-column.column) (sym one)
    (root_planted c.new.result c.new.ensures table c.in_ok-column.column c.len.ensures.distinct wide)

pub returns-clause-empty : goal.returns-clause-empty
returns-clause-empty c =
    let one : c.push.new.self.items ≡ c.new.result ∷ [] = c.in_ok-push.ensures.items
    ∙ ap (λ ns. ns ++ c.new.result ∷ []) c.new-nodes.ensures.items in
    ap context one ∙ root_empty c.new.result c.new.ensures
