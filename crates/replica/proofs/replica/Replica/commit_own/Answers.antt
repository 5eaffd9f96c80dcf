use Rattle.replica.proofs.replica.Replica.commit_own.Goals as goal

pub commit_made-requires : goal.commit_made-requires
commit_made-requires c =
    record { made = c.requires.made; room = c.requires.room; above = c.requires.above }
