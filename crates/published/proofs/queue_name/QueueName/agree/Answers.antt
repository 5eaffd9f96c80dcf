use Rattle.std.proofs.Common.{ap, sym, subst, List}
use Rattle.published.specs.declared.written.Written.{Written}
use Rattle.published.specs.Rules.{IsQueueOf}
use Rattle.published.proofs.Prefixes.{one_queue, queue_stays}
use Rattle.published.proofs.queue_name.QueueName.agree.Goals as goal

pub returns : goal.returns
returns g c q r this other =
    let both = c.learn.new.self.log in
    let same : IsQueueOf q c.again-both.result.log = subst (λ (l : List Written). IsQueueOf q l)
    (ap (λ s. s.log) (sym c.again-both.ensures)) this in
    one_queue q r both (queue_stays q _ both c.learn.ensures.2 same) (queue_stays r _ both c.learn.ensures.3 other)
