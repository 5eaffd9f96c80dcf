use Rattle.std.proofs.Common.{Some, ap, subst, ◌∙◌, add-one, min}
use Rattle.replica.specs.Turns.{IsNextTurn}
use Rattle.replica.proofs.Dropping.{none_dropped, dropped_one, fewer, reserved}
use Rattle.replica.proofs.replica.Replica.prepare.Goals as goal

pub loop-turn-init : goal.loop-turn-init
loop-turn-init c = none_dropped _ c.self.invariant

pub loop-turn-smaller : goal.loop-turn-smaller
loop-turn-smaller c =
    let q = c.loop-turn.self-inside in
    let d = c.next_turn.new.document in
    let turn = subst (IsNextTurn d q.inbox) (c.in-Some.is ∙ ap Some c.in-Drop.is) c.in_ok-turn.ensures.turn in
    fewer _ _
    (reserved _ _ c.loop-turn.invariant d c.next_turn.ensures.members c.next_turn.ensures.entries) c.in-Drop.id turn c.take.new.self
    c.saturating_add-self-inside.result
    c.take.ensures.left c.take.ensures.among
    (c.saturating_add-self-inside.ensures ∙ ap (λ n. min n 18446744073709551615) (add-one q.dropped))

pub loop-turn-preserved : goal.loop-turn-preserved
loop-turn-preserved c =
    let q = c.loop-turn.self-inside in
    let d = c.next_turn.new.document in
    let turn = subst (IsNextTurn d q.inbox) (c.in-Some.is ∙ ap Some c.in-Drop.is) c.in_ok-turn.ensures.turn in
    dropped_one _ _
    (reserved _ _ c.loop-turn.invariant d c.next_turn.ensures.members c.next_turn.ensures.entries) c.in-Drop.id turn c.take.new.self
    c.saturating_add-self-inside.result
    c.take.ensures.left c.take.ensures.among
    (c.saturating_add-self-inside.ensures ∙ ap (λ n. min n 18446744073709551615) (add-one q.dropped))
