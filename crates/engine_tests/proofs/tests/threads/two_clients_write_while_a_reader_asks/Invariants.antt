use Rattle.ids.specs.Members.{in_order}
use Rattle.engine_tests.proofs.tests.threads.two_clients_write_while_a_reader_asks.Given as goal

-- the engine of these parts
abbrev pub ghosts-in_threads : goal.ghosts-in_threads
ghosts-in_threads g a = record { book = a.parts.opened.seen.book; own = a.parts.config.own; table = in_order a.parts.config.members }
