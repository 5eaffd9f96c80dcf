use Rattle.ids.specs.Members.{in_order}
use Rattle.peer_sync_tests.proofs.tests.refused_memory.open_two.Given as goal

-- the second engine is that of these parts
abbrev pub ghosts-with_two : goal.ghosts-with_two
ghosts-with_two g a = record { book = a.parts.opened.seen.book; own = a.parts.config.own; table = in_order a.parts.config.members }
