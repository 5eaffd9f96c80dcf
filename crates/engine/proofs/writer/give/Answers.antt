use Rattle.std.proofs.Common.{List, sym, subst, ◌∙◌}
use Rattle.semantics.specs.Entries.{Entry}
use Rattle.semantics.specs.Engine.{Handled}
use Rattle.semantics.specs.PeerAnswers.{IsAnswerWith}
use Rattle.semantics.specs.Batches.{AreAnswers}
use Rattle.engine.proofs.Filling.{answers_pop, answers_reversed}
use Rattle.engine.proofs.writer.give.Goals as goal

pub tell-told-requires : goal.tell-told-requires
tell-told-requires g c =
    let own = g.N.EngineName.own in
    let table = g.N.EngineName.table in
    let popped = answers_pop own table c.args.notice.now c.loop-handled.held.items c.pop.new.self.items c.in-Some.handled
    c.in-Some.ensures.items c.loop-handled.invariant.0 in
    subst (λ (G : List Entry). IsAnswerWith own table G c.in-Some.handled.submitted c.in-Some.handled.reply) (sym c.again.ensures) popped.1

pub loop-handled-preserved : goal.loop-handled-preserved
loop-handled-preserved g c = (
  (answers_pop g.N.EngineName.own g.N.EngineName.table c.args.notice.now c.loop-handled.held.items c.pop.new.self.items c.in-Some.handled
      c.in-Some.ensures.items c.loop-handled.invariant.0).0,
  c.pop.ensures.capacity ∙ c.loop-handled.invariant.1,
)

pub loop-handled-preserved-in-Some : goal.loop-handled-preserved-in-Some
loop-handled-preserved-in-Some g c = (
  (answers_pop g.N.EngineName.own g.N.EngineName.table c.args.notice.now c.loop-handled.held.items c.pop.new.self.items c.in-Some.handled
      c.in-Some.ensures.items c.loop-handled.invariant.0).0,
  c.pop.ensures.capacity ∙ c.loop-handled.invariant.1,
)

pub loop-handled-init : goal.loop-handled-init
loop-handled-init g c =
    let own = g.N.EngineName.own in
    let table = g.N.EngineName.table in (
      subst (λ (hs : List Handled). AreAnswers own table c.args.notice.now hs) (sym {A = List Handled} c.reverse.ensures.items)
          (answers_reversed own table c.args.notice.now c.args.held.now.items c.requires),
      c.reverse.ensures.capacity,
    )
