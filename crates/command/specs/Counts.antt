-- How often a call found the queue empty or full. A rule of each client's submissions can't express that, so the call that finds it counts.
use Rattle.std.specs.Prelude.{ℕ, ◌+◌, min}
use Rattle.ids.specs.declared.refusal.Refusal.{Refusal}
use Rattle.ids.specs.declared.refusal.Refusal.TheVariants.{QueueFull}

-- once more; a count saturates at the greatest number of 64 bits
abbrev pub one_more : ℕ → ℕ
one_more n = min (n + 1) 18446744073709551615

-- how often the queue was found full, after a refusal
abbrev pub full_after : ℕ → Refusal → ℕ
full_after n QueueFull = one_more n
full_after n _ = n
