use Rattle.ids.specs.Members.{in_order}
use Rattle.peer_sync_tests.proofs.tests.refused_memory.an_exchange_goes_on.Given as goal

-- the first engine is that of these parts
abbrev pub ghosts-with_one : goal.ghosts-with_one
ghosts-with_one g a = record { book = a.parts.opened.seen.book; own = a.parts.config.own; table = in_order a.parts.config.members }
