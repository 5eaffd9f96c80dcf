use Rattle.ids.specs.Members.{in_order}
use Rattle.meeting.proofs.meet.Given as goal

-- the engine of the first parts
abbrev pub ghosts-open_alice : goal.ghosts-open_alice
ghosts-open_alice g a = record { book = a.alice.opened.seen.book; own = a.alice.config.own; table = in_order a.alice.config.members }
