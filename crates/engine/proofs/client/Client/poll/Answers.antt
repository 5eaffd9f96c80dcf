use Rattle.std.proofs.Common.{ap}
use Rattle.engine.specs.Clients.{Client}
use Rattle.engine.proofs.Asking.{legal_reply, polls_of, reply_of_answered}
use Rattle.engine.proofs.client.Client.poll.Goals as goal

pub returns-clause-polls : goal.returns-clause-polls
returns-clause-polls g c =
    polls_of c.args.self.now c.look.new.self _ _ _ _ _ c.in-Some.is (ap (λ (z : Client). z.kept) c.self.view_is)
    c.in_ok-reply.ensures.looks

pub returns-clause-answered : goal.returns-clause-answered
returns-clause-answered g c =
    reply_of_answered g.N.EngineName.own g.N.EngineName.table c.look.new.self _ c.args.ticket.now _ _ _ _ c.in-Some.is
    (ap (λ (z : Client). z.kept) c.self.view_is) c.in_ok-reply.ensures.answered c.learn.ensures.learns

pub returns-clause-legal : goal.returns-clause-legal
returns-clause-legal g c =
    legal_reply g.N.EngineName.own g.N.EngineName.table c.args.self.now c.look.new.self c.args.ticket.now _ _ _ _ c.in-Some.is
    c.in_ok-reply.ensures.items c.in_ok-reply.ensures.answered c.learn.ensures.learns
