use Rattle.std.proofs.Common.{rules, ◌∙◌, ap, refl}
use Rattle.ids.specs.Members.{is_member}
use Rattle.ids.proofs.InOrder.{is_member-in_order}
use Rattle.replica.proofs.OpenedReplicas.{none_opened, opened}
use Rattle.replica.proofs.replica.Replica.new.Goals as goal

pub returns-in_err-own-clause-bad_config : goal.returns-in_err-own-clause-bad_config
returns-in_err-own-clause-bad_config c = (λ e. none_opened c.args.members.now c.args.own c.in_err-own.ensures.1, λ e. search rules)

pub invariant_of-result : goal.invariant_of-result
invariant_of-result c =
    opened _ c.in_ok-document.ensures.new.1 c.new-2.ensures refl
    (ap (λ ps. is_member ps c.in_ok-own.own) c.in_ok-document.ensures.new.0 ∙ is_member-in_order c.args.members.now c.in_ok-own.own
    ∙ ap (is_member c.args.members.now) c.in_ok-own.ensures.0 ∙ c.in_ok-own.ensures.1)
