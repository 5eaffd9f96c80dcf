use Rattle.std.proofs.Common.{◌≡◌, ℕ, List, get_or, ◌∙◌}
use Rattle.ids.specs.Members.{is_member}
use Rattle.ids.proofs.Tables.{distinct_before}
use Rattle.ids.proofs.table.table_of.Goals as goal

pub join-requires-clause-new : goal.join-requires-clause-new
join-requires-clause-new c =
    let ns : List ℕ = c.args.numbers.now in
    let k : ℕ = c.loop-number.number-index in
    let here : c.in-Some.replica ≡ get_or ns k 0 = c.in-Some.ensures.0 in
    (λ i. is_member ((c.reserve_one.ensures.numbers ∙ c.loop-number.invariant) i) (here i))
    ∙ distinct_before ns c.requires.distinct k 0 c.loop-number-test.true
