use Rattle.ids.specs.Members.{in_order}
use Rattle.peer_sync_tests.proofs.tests.opening.on_opened.Given as goal

-- the first engine is that of these parts
abbrev pub ghosts-open_first : goal.ghosts-open_first
ghosts-open_first g a = record { book = a.parts.opened.seen.book; own = a.parts.config.own; table = in_order a.parts.config.members }
