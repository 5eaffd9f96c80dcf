-- The limits of a document and of what it is made of. Those of a configuration stand in `Configurations` of `ids`.
use Rattle.std.specs.Prelude.{ℕ}

-- how many keys the path of a place has at most
abbrev pub most_keys : ℕ
most_keys = 32

-- how many bytes the key of a field has at most
abbrev pub most_key_bytes : ℕ
most_key_bytes = 256

-- how many bytes a text has at most
abbrev pub most_text_bytes : ℕ
most_text_bytes = 4096

-- how many operations a history holds
abbrev pub most_entries : ℕ
most_entries = 1048576

-- how many operations may wait while none of them is ready
abbrev pub most_waiting : ℕ
most_waiting = 4096

-- the greatest counter of an id
abbrev pub most_counter : ℕ
most_counter = 4611686018427387904

-- the greatest number of a replica
abbrev pub most_replica : ℕ
most_replica = 4294967295
