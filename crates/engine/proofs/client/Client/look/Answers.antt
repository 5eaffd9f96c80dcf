use Rattle.std.proofs.Common.{◌≡◌, ◌-◌, ◌<◌, ◌∙◌, Some, length, map, slice_get, sym, ap, subst, refl, rules}
use Rattle.engine.specs.Clients.{AreBy, AwaitedAnswer, Client, submissions_by}
use Rattle.engine.proofs.Asking.{answered, by_kept, items_set, kept_at, looked}
use Rattle.engine.proofs.client.Client.look.Given.{Over}
use Rattle.engine.proofs.client.Client.look.Goals.{After-look}
use Rattle.engine.proofs.client.Client.look.Goals as goal

-- what is kept for the ticket
at : (g : Over) (c : After-look g)
    → slice_get c.self.inside.kept.items (c.args.ticket.now.serial - 1) ≡ Some c.index_mut.result.now
at g c =
    let lt : c.args.ticket.now.serial - 1 < length c.self.inside.kept.items = search rules in
    kept_at _ _ _ _ refl lt c.index_mut.ensures.value

pub invariant_of-self : goal.invariant_of-self
invariant_of-self g c =
    let kept = items_set _ _ _ _ (at g (goal.at.invariant_of-self g c).After-look) c.look.ensures.submission in
    (c.self.invariant.0, c.self.invariant.1 ∙ sym kept, by_kept _ _ _ _ kept c.self.invariant.2, c.self.invariant.3)

pub returns-clause-items : goal.returns-clause-items
returns-clause-items g c =
    items_set _ _ _ _ (at g (goal.at.returns-clause-items g c).After-look) c.look.ensures.submission
    ∙ ap submissions_by c.self.view_is

pub returns-clause-looks : goal.returns-clause-looks
returns-clause-looks g c =
    looked g.N.EngineName.own g.N.EngineName.table c.args.self.now _ _ _ _ _ _ (ap (λ (z : Client). z.kept) c.self.view_is)
    (at g (goal.at.returns-clause-looks g c).After-look) refl c.look.ensures.submission c.look.ensures.known c.look.ensures.answer

pub returns-clause-answered : goal.returns-clause-answered
returns-clause-answered g c =
    let by = subst (λ n. AreBy n 1 (map (λ (z : AwaitedAnswer). z.submission) c.self.inside.kept.items))
    (ap (λ (z : Client). z.number) c.self.view_is) c.self.invariant.2 in
    answered g.N.EngineName.own g.N.EngineName.table c.args.self.now _ _ _ _ _ _ c.if-not-is_mine.ensures by
    (at g (goal.at.returns-clause-answered g c).After-look) refl c.look.ensures.submission c.look.ensures.answer
