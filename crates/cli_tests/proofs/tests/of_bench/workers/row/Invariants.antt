use Rattle.ids.specs.Members.{in_order}
use Rattle.cli_tests.proofs.tests.of_bench.workers.row.Given as goal

-- the engine of these parts
abbrev pub ghosts-row_in : goal.ghosts-row_in
ghosts-row_in g a = record { book = a.parts.opened.seen.book; own = a.parts.config.own; table = in_order a.parts.config.members }
