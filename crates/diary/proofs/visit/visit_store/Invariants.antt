use Rattle.ids.specs.Members.{in_order}
use Rattle.diary.proofs.visit.visit_store.Given as goal

-- the engine of these parts
abbrev pub ghosts-visit_notebook : goal.ghosts-visit_notebook
ghosts-visit_notebook g a = record { book = a.parts.opened.seen.book; own = a.parts.config.own; table = in_order a.parts.config.members }
