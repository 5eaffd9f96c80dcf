-- What an engine is opened with, and its limits.
use Rattle.std.specs.Prelude.{ℕ, Bool, ◌&&◌, nat_le, List, length}
use Rattle.std.specs.List.{list_all}
use Rattle.ids.specs.Members.{is_member, are_distinct}

-- the own number and the members, how many clients and readers there are, the capacity of the queue, how many submissions go into
-- a batch, and how many serials a client has
pub record Configuration : Type 0 where
  pub own : ℕ
  pub members : List ℕ
  pub clients : ℕ
  pub readers : ℕ
  pub queue : ℕ
  pub batch : ℕ
  pub serials : ℕ

-- the greatest capacity of a queue
abbrev pub most_queue : ℕ
most_queue = 65536

-- n is from 1 to the limit
abbrev pub is_from_one_to : ℕ → ℕ → Bool
is_from_one_to limit n = nat_le 1 n && nat_le n limit

-- from 1 to 64 members, which are distinct numbers above 0
abbrev pub are_members : List ℕ → Bool
are_members ps = is_from_one_to 64 (length ps) && list_all (λ p. nat_le 1 p) ps && are_distinct ps

-- the own number is a member, and each number is within its limit
abbrev pub is_within_limits : Configuration → Bool
is_within_limits c =
    are_members c.members && is_member c.members c.own
    && is_from_one_to 64 c.clients && is_from_one_to 64 c.readers
    && is_from_one_to most_queue c.queue && is_from_one_to 256 c.batch && is_from_one_to 4294967295 c.serials
