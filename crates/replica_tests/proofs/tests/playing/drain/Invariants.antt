use Rattle.replica_tests.proofs.tests.playing.drain.Given as goal

abbrev pub ghosts-drain_after : goal.ghosts-drain_after
ghosts-drain_after a = record {
  own = a.replica.now.own;
  members = a.replica.now.document.members;
  entries = a.replica.now.document.entries;
}
