use Rattle.ids.specs.Members.{in_order}
use Rattle.notebook_tests.proofs.tests.opening.live.Given as goal

-- the engine of these parts
abbrev pub ghosts-open_notebook : goal.ghosts-open_notebook
ghosts-open_notebook g a = record { book = a.parts.opened.seen.book; own = a.parts.config.own; table = in_order a.parts.config.members }
