use Rattle.crossbeam_queue.specs.Passes.{view}
use Rattle.semantics.proofs.HandledBatches.{resumed}
use Rattle.replica.specs.Handlers.{handler_of}
use Rattle.engine.specs.WriterSteps.{submitted_in}
use Rattle.engine.proofs.writer.Writer.take_all.Goals as goal

pub fill-requires-clause-running : goal.fill-requires-clause-running
fill-requires-clause-running g c =
    (resumed (handler_of c.self.inside.handler) (handler_of c.resume.new.self)
    (submitted_in
    (view c.self.inside.taker.pass).got) c.self.invariant.running c.self.invariant.come_from c.resume.ensures.resumed).running

pub fill-requires-clause-come_from : goal.fill-requires-clause-come_from
fill-requires-clause-come_from g c =
    (resumed (handler_of c.self.inside.handler) (handler_of c.resume.new.self)
    (submitted_in
    (view c.self.inside.taker.pass).got) c.self.invariant.running c.self.invariant.come_from c.resume.ensures.resumed).come_from
