use Rattle.ids.specs.Members.{in_order}
use Rattle.meeting.proofs.with_alice.Given as goal

-- the engine of the second parts
abbrev pub ghosts-open_bob : goal.ghosts-open_bob
ghosts-open_bob g a = record { book = a.bob.opened.seen.book; own = a.bob.config.own; table = in_order a.bob.config.members }
