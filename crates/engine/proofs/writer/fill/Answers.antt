use Rattle.std.proofs.Common.{rules, ◌∙◌}
use Rattle.crossbeam_queue.specs.Passes.{view}
use Rattle.replica.specs.Handlers.{handler_of}
use Rattle.engine.proofs.Filling.{is_above, filling_next}
use Rattle.engine.proofs.writer.fill.Goals as goal

pub handle_one-handled-requires-clause-above : goal.handle_one-handled-requires-clause-above
handle_one-handled-requires-clause-above g c =
    is_above (handler_of c.args.handler.now) (view c.args.taker.now.pass).got c.loop.held.items
    (handler_of c.loop.handler) (view c.loop.taker.pass).got c.loop.invariant.filling
    c.in-Some.envelope.answer.value.submission c.in-Some.ensures.taken.1

pub loop-preserved : goal.loop-preserved
loop-preserved g c = record {
  filling = filling_next (handler_of c.args.handler.now) (view c.args.taker.now.pass).got c.loop.held.items
      (handler_of c.loop.handler) (view c.loop.taker.pass).got c.loop.invariant.filling
      c.in-Some.envelope.answer.value.submission c.in-Some.ensures.taken.1 c.handle_one-handled.result
      (handler_of c.handle_one-handled.new.handler) (view c.take.new.self.pass).got c.push_reserved.new.self.items
      c.in-Some.ensures.taken.0 c.push_reserved.ensures.items c.handle_one-handled.ensures.submission c.handle_one-handled.ensures.handled;
  taker = (
    c.in-Some.ensures.same.0 ∙ c.loop.invariant.taker.0,
    c.in-Some.ensures.same.1 ∙ c.loop.invariant.taker.1,
    c.in-Some.ensures.same.2 ∙ c.loop.invariant.taker.2,
  );
  holds = c.handle_one-handled.ensures.holds;
  published = c.handle_one-handled.ensures.published ∙ c.loop.invariant.published;
  room = search rules;
  count = search rules;
  empty = c.in-Some.ensures.empty ∙ c.loop.invariant.empty;
}
