use Rattle.std.proofs.Common.{◌≡◌, ◌-◌, ◌<◌, Some, length, slice_get, ap, sym, ◌∙◌, refl, rules}
use Rattle.engine.specs.Clients.{Client}
use Rattle.engine.proofs.Asking.{kept_at, noticed}
use Rattle.engine.proofs.client.Client.notice_of.Goals as goal

pub returns-in_default-clause-notice : goal.returns-in_default-clause-notice
returns-in_default-clause-notice g c =
    let lt : c.args.ticket.now.serial - 1 < length c.self.inside.kept.items = search rules in
    let at : slice_get c.self.inside.kept.items (c.args.ticket.now.serial - 1)
    ≡ Some c.index.result.now = kept_at _ _ _ _ refl lt c.index.ensures in
    noticed (λ n. n.now) g.N.EngineName.own g.N.EngineName.table c.args.self.now c.args.ticket.now c.index.result.now c.notice.result
    (ap (λ (z : Client). slice_get z.kept (c.args.ticket.now.serial - 1)) (sym c.self.view_is) ∙ at) c.notice.ensures
