use Rattle.ids.specs.Members.{in_order}
use Rattle.engine_tests.proofs.tests.closing.a_closed_engine_refuses_what_is_left.Given as goal

-- the engine of these parts
abbrev pub ghosts-keep_two : goal.ghosts-keep_two
ghosts-keep_two g a = record { book = a.parts.opened.seen.book; own = a.parts.config.own; table = in_order a.parts.config.members }
