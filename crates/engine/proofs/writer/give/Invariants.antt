use Rattle.std.proofs.Common.{◌≡◌, vec_capacity, vec_len}
use Rattle.semantics.specs.Batches.{AreAnswers}
use Rattle.engine.proofs.writer.give.Given as goal

abbrev pub invariant-loop-handled : goal.invariant-loop-handled
invariant-loop-handled g l = AreAnswers g.N.EngineName.own g.N.EngineName.table l.notice l.held.items
    × (vec_capacity l.held ≡ vec_capacity l.fn.held)

abbrev pub decreases-loop-handled : goal.decreases-loop-handled
decreases-loop-handled g l = vec_len l.held
