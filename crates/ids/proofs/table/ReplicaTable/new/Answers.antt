-- The members are distinct, so what the sort leaves is the one ascending list that has them all.
use Rattle.std.proofs.Common.{◌≡◌, ◌<◌, IsTrue, List, ℕ, length, get_or, rules, sym, ap, ◌∙◌, subst}
use Rattle.std.specs.List.Sorted.{IsPermutation}
use Rattle.ids.specs.Configurations.{are_members}
use Rattle.ids.specs.Members.{AreDistinct, in_order, is_member}
use Rattle.ids.proofs.InOrder.{is_member-in_order, sorted-in_order}
use Rattle.ids.proofs.Tables.{distinct_members, ordered_above_zero, ordered_distinct}
use Rattle.ids.proofs.table.ReplicaTable.new.Goals as goal
use Rattle.ids.proofs.table.ReplicaTable.new.Goals.{After-as_slice}

sorted : (c : After-as_slice) → c.as_slice.result.now ≡ in_order c.args.members.now
sorted c =
    let members : List ℕ = c.args.members.now in
    let numbers : List ℕ = c.sort_unstable.new.self.items in
    let are : IsTrue (are_members members) = search rules in
    let copied : c.in_ok-numbers.numbers.items ≡ members = search rules in
    c.as_slice.ensures.value
    ∙ sorted-in_order members numbers (distinct_members members are)
    (subst (λ l. IsPermutation l numbers) copied c.sort_unstable.ensures.permutation) c.sort_unstable.ensures.sorted

pub table_of-requires-clause-distinct : goal.table_of-requires-clause-distinct
table_of-requires-clause-distinct c =
    let are : IsTrue (are_members c.args.members.now) = search rules in
    subst AreDistinct (sym (sorted (goal.at.table_of-requires-clause-distinct c).After-as_slice)) (ordered_distinct c.args.members.now are)

pub table_of-requires-clause-above_zero : goal.table_of-requires-clause-above_zero
table_of-requires-clause-above_zero c =
    let are : IsTrue (are_members c.args.members.now) = search rules in
    subst (λ (ns : List ℕ). (k : ℕ) → k < length ns → 0 < get_or ns k 0)
    (sym (sorted (goal.at.table_of-requires-clause-above_zero c).After-as_slice)) (ordered_above_zero c.args.members.now are)

pub returns-clause-table : goal.returns-clause-table
returns-clause-table c = c.in_ok-table_of.ensures ∙ sorted (goal.at.returns-clause-table c).After-as_slice

pub returns-clause-same : goal.returns-clause-same
returns-clause-same c p =
    ap (λ ns. is_member ns p) (c.in_ok-table_of.ensures ∙ sorted (goal.at.returns-clause-same c).After-as_slice)
    ∙ is_member-in_order c.args.members.now p
