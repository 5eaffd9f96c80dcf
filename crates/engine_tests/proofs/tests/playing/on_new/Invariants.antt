use Rattle.ids.specs.Members.{in_order}
use Rattle.engine_tests.proofs.tests.playing.on_new.Given as goal

-- the engine of these parts
abbrev pub ghosts-on_parts : goal.ghosts-on_parts
ghosts-on_parts g a = record { book = a.parts.opened.seen.book; own = a.parts.config.own; table = in_order a.parts.config.members }
