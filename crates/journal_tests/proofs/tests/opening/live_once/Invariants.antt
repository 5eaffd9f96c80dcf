use Rattle.ids.specs.Members.{in_order}
use Rattle.journal_tests.proofs.tests.opening.live_once.Given as goal

-- the engine of the parts
abbrev pub ghosts-open_engine : goal.ghosts-open_engine
ghosts-open_engine g a = record { book = a.parts.opened.seen.book; own = a.parts.config.own; table = in_order a.parts.config.members }
