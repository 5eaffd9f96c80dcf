-- What a follower takes in, and what a feed has sent.
use Rattle.std.specs.Prelude.{◌≡◌, ◌≤◌, ℕ, Bool, true, false, List, [], ◌∷◌, ◌++◌, All, length, map, slice_get, Option, None, Some}
use Rattle.semantics.specs.Entries.{Entry as TheEntry, first_entries}
use Rattle.document.specs.operation.declared.command.Entry.{Entry}
use Rattle.document.specs.operation.Ops.{entry_of}
use Rattle.document.specs.oplog.Logs.{history}
use Rattle.rtrb.specs.Ring.{IsPair, received, sent}
use Rattle.followers.specs.declared.feed.Feed.{Feed}
use Rattle.followers.specs.declared.follower.Follower.{Follower}

-- the history H is G with one more entry, or G if none was taken
abbrev pub TakesOne : (took : Bool) → (G H : List TheEntry) → Type 0
TakesOne true G H = (e : TheEntry) × (H ≡ e ∷ G)
TakesOne false G H = H ≡ G

-- what was sent, followed by what is ahead (the newest first), is the first entries of the history G
pub record IsFedFrom (G : List TheEntry) (next : ℕ) (ahead sent : List Entry) : Type 0 where
  pub within : next ≤ length G
  pub first : map entry_of ahead ++ history sent ≡ first_entries next G

-- each of these feeds was fed from G
abbrev pub AreFed : List TheEntry → List Feed → Type 0
AreFed G = All (λ f. IsFedFrom G f.next f.ahead.items (sent f.to))

-- a feed was added to these, and the follower has the other end of its ring
abbrev pub HasCome : (before after : List Feed) → Follower → Type 0
HasCome before after f = (feed : Feed) × IsPair feed.to f.from × (after ≡ before ++ feed ∷ [])

-- the feed at this position has the other end of the follower's ring
abbrev pub HasEnd : List Feed → (at : ℕ) → Follower → Type 0
HasEnd feeds at f = (feed : Feed) × (slice_get feeds at ≡ Some feed) × IsPair feed.to f.from

-- an entry that came, and isn't taken in yet
abbrev pub awaiting : Option Entry → List TheEntry
awaiting None = []
awaiting (Some e) = entry_of e ∷ []

-- what came is what was taken in, and then the entry that is kept
abbrev pub IsFollowing : (taken : List TheEntry) → (kept : Option Entry) → (came : List Entry) → Type 0
IsFollowing taken kept came = history came ≡ awaiting kept ++ taken

-- a follower shows what came to it, except for the entry that it keeps
abbrev pub ShowsWhatCame : Follower → Type 0
ShowsWhatCame f = IsFollowing f.document.entries f.kept (received f.from)
