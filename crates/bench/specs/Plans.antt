-- What a bench may be asked to play.
use Rattle.std.specs.Prelude.{ℕ, Bool, ◌&&◌, nat_le}
use Rattle.ids.specs.Configurations.{most_queue}

-- from 1 to most
abbrev pub is_within : ℕ → ℕ → Bool
is_within most n = nat_le 1 n && nat_le n most

-- from 1 to 16 engines with 1 to 16 writers each, 1 to 4,096 operations of each writer, and queues of 1 to 65,536 slots
abbrev pub is_plan : ℕ → ℕ → ℕ → ℕ → Bool
is_plan replicas writers ops queue = is_within 16 replicas && is_within 16 writers && is_within 4096 ops && is_within most_queue queue
