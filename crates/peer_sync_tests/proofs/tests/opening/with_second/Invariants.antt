use Rattle.ids.specs.Members.{in_order}
use Rattle.peer_sync_tests.proofs.tests.opening.with_second.Given as goal

-- the second engine is that of these parts
abbrev pub ghosts-open_second : goal.ghosts-open_second
ghosts-open_second g a = record { book = a.parts.opened.seen.book; own = a.parts.config.own; table = in_order a.parts.config.members }
