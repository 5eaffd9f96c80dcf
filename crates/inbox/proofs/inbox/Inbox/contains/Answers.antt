use Rattle.std.proofs.Common.{ap, sym, ◌∙◌, is_some}
use Rattle.semantics.specs.Delivery.{is_waiting}
use Rattle.inbox.specs.Inboxes.{waiting_in}
use Rattle.inbox.proofs.KeyedOps.{waiting-found}
use Rattle.inbox.proofs.inbox.Inbox.contains.Goals as goal

pub returns : goal.returns
returns c =
    let d = c.self.inside in
    c.is_some.ensures
    ∙ ap is_some c.get.ensures
    ∙ sym (waiting-found d.ops d.keys.entries c.args.id c.self.invariant.at_keys)
    ∙ ap (λ ops. is_waiting (waiting_in ops) c.args.id) c.self.view_is
