use Rattle.ids.specs.Members.{in_order}
use Rattle.engine_tests.proofs.tests.closing.what_is_not_taken_is_counted.Given as goal

-- the engine of these parts
abbrev pub ghosts-one_left : goal.ghosts-one_left
ghosts-one_left g a = record { book = a.parts.opened.seen.book; own = a.parts.config.own; table = in_order a.parts.config.members }
