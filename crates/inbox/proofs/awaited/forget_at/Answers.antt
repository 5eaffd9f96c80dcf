use Rattle.std.proofs.Common.{refl, sym, ap, ◌∙◌}
use Rattle.inbox.specs.declared.awaited.Awaited.{Awaited}
use Rattle.inbox.proofs.KeptAwaits.{gone_here, kept_elsewhere}
use Rattle.inbox.proofs.awaited.forget_at.Goals as goal

pub returns-clause-kept : goal.returns-clause-kept
returns-clause-kept c q differs =
    kept_elsewhere c.args.awaits.now c.args.awaits.now c.remove.new.self _ (λ q. refl) c.remove.ensures.updates q
    (λ same. differs (same ∙ ap (λ (x : Awaited). x.key) c.awaited_by.ensures))

pub returns-clause-gone : goal.returns-clause-gone
returns-clause-gone c found q held same =
    gone_here c.args.awaits.now c.args.awaits.now c.remove.new.self _ (λ q. refl) c.remove.ensures.updates c.requires.single
    (sym c.remove.ensures.test ∙ found) q held (same ∙ sym (ap (λ (x : Awaited). x.key) c.awaited_by.ensures))
