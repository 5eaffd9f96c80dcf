use Rattle.std.proofs.Common.{ap, sym, subst, ◌∙◌, length}
use Rattle.inbox.specs.Inboxes.{AreRising}
use Rattle.inbox.proofs.KeyedOps.{length-ops_at}
use Rattle.inbox.proofs.inbox.Inbox.len.Goals as goal

pub returns-clause-length : goal.returns-clause-length
returns-clause-length c =
    let d = c.self.inside in
    c.len.ensures.length ∙ sym (length-ops_at d.ops d.keys.entries c.self.invariant.at_keys) ∙ ap length c.self.view_is

pub returns-clause-rising : goal.returns-clause-rising
returns-clause-rising c = subst AreRising c.self.view_is c.self.invariant.rising
