use Rattle.ids.specs.Members.{in_order}
use Rattle.engine_tests.proofs.tests.schedules.eight_clients_crowd_one_slot.Given as goal

-- the engine of these parts
abbrev pub ghosts-crowd : goal.ghosts-crowd
ghosts-crowd g a = record { book = a.parts.opened.seen.book; own = a.parts.config.own; table = in_order a.parts.config.members }
