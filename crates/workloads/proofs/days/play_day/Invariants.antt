use Rattle.ids.specs.Members.{in_order}
use Rattle.workloads.proofs.days.play_day.Given as goal

-- the engine of the parts
abbrev pub ghosts-open_and_play : goal.ghosts-open_and_play
ghosts-open_and_play g a = record { book = a.parts.opened.seen.book; own = a.parts.config.own; table = in_order a.parts.config.members }
