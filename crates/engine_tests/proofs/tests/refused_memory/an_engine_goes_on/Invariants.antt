use Rattle.ids.specs.Members.{in_order}
use Rattle.engine_tests.proofs.tests.refused_memory.an_engine_goes_on.Given as goal

-- the engine of these parts
abbrev pub ghosts-opened : goal.ghosts-opened
ghosts-opened g a = record { book = a.parts.opened.seen.book; own = a.parts.config.own; table = in_order a.parts.config.members }
