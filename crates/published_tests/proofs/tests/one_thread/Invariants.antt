use Rattle.std.proofs.Common.{◌∷◌, []}
use Rattle.ids.specs.Members.{in_order}
use Rattle.published_tests.proofs.tests.one_thread.Given as goal

-- the engine numbered 9 whose history was just opened
abbrev pub ghosts-alone : goal.ghosts-alone
ghosts-alone g a = record { book = a.opened.seen.book; own = 9; table = in_order (1 ∷ 2 ∷ 9 ∷ []) }
