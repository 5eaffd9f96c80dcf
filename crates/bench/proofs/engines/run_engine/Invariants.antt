use Rattle.ids.specs.Members.{in_order}
use Rattle.bench.proofs.engines.run_engine.Given as goal

-- the engine of these parts
abbrev pub ghosts-run_in : goal.ghosts-run_in
ghosts-run_in g a = record { book = a.parts.opened.seen.book; own = a.parts.config.own; table = in_order a.parts.config.members }
