use Rattle.ids.specs.Members.{in_order}
use Rattle.engine_tests.proofs.tests.whole_batches.batches_appear_whole.Given as goal

-- the engine of these parts
abbrev pub ghosts-in_batches : goal.ghosts-in_batches
ghosts-in_batches g a = record { book = a.parts.opened.seen.book; own = a.parts.config.own; table = in_order a.parts.config.members }
