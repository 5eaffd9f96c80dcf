use Rattle.ids.specs.Members.{in_order}
use Rattle.engine_tests.proofs.tests.schedules.a_reader_without_pause_never_sees_less.Given as goal

-- the engine of these parts
abbrev pub ghosts-publishes_meanwhile : goal.ghosts-publishes_meanwhile
ghosts-publishes_meanwhile g a = record {
  book = a.parts.opened.seen.book;
  own = a.parts.config.own;
  table = in_order a.parts.config.members;
}
