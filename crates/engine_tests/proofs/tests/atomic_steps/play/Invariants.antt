use Rattle.ids.specs.Members.{in_order}
use Rattle.engine_tests.proofs.tests.atomic_steps.play.Given as goal

-- the engine of these parts
abbrev pub ghosts-play_in : goal.ghosts-play_in
ghosts-play_in g a = record { book = a.parts.opened.seen.book; own = a.parts.config.own; table = in_order a.parts.config.members }
