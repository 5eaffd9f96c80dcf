-- What a client does with the lines that it receives.
use Rattle.std.specs.Prelude.{ℕ, ◌+◌, ◌≡◌, ◌<◌, ◌≤◌, ◌⊎◌, List, [], ◌∷◌, ◌++◌, length, take, Some, None}
use Rattle.ids.specs.declared.refusal.Refusal.{Refusal}
use Rattle.ids.specs.declared.refusal.Refusal.TheVariants.{Closed, NoMemory, QueueFull, SerialEnd}
use Rattle.engine.specs.operation.declared.op.Op.{Op}
use Rattle.engine.specs.operation.declared.submission.Request.TheVariants.{Peer}
use Rattle.engine.specs.Clients.{Client, with_request}
use Rattle.engine.specs.command.Counts.{one_more}
use Rattle.wire.specs.Bundles.{Readable}

-- the client after it submitted a peer's operation: under its next serial, with what it has seen as the floor
abbrev pub submitted : Client → Op → Client
submitted c op = with_request c (Peer op)

-- the client after it submitted these, one after another
abbrev pub all_submitted : Client → List Op → Client
all_submitted c [] = c
all_submitted c (op ∷ ops) = all_submitted (submitted c op) ops

-- why a client that had found the queue full this often submits no more: its serials are used up; or it has serials left, and its engine is
-- closed or it found the queue full once more
abbrev pub IsDenied : (found_full : ℕ) → Client → Refusal → Type 0
IsDenied n c why =
    ((why ≡ SerialEnd) × (c.serials ≤ length c.kept) × (c.found_full ≡ n))
    ⊎ ((why ≡ Closed) × (length c.kept < c.serials) × (c.found_full ≡ n))
    ⊎ ((why ≡ QueueFull) × (length c.kept < c.serials) × (c.found_full ≡ one_more n))

-- why the line after n operations isn't submitted by client c: allocation failed; or it is the bad line; or it is an operation that the
-- client doesn't submit. Only in the last case may the queue have been full
abbrev pub StopsAfter : Readable → ℕ → (found_full : ℕ) → Client → Refusal → Type 0
StopsAfter r n found c why =
    ((why ≡ NoMemory) × (c.found_full ≡ found))
    ⊎ ((n ≡ length r.operations) × (r.stopped ≡ Some why) × (c.found_full ≡ found))
    ⊎ ((n < length r.operations) × IsDenied found c why)

-- nothing follows n operations: all of the text was read
abbrev pub EndsAfter : Readable → ℕ → Type 0
EndsAfter r n = (n ≡ length r.operations) × (r.stopped ≡ None)

-- the rest of a text reads as what the text has after its first n operations
abbrev pub GoesOn : Readable → ℕ → Readable → Type 0
GoesOn whole n rest = whole ≡ record { operations = take n whole.operations ++ rest.operations; stopped = rest.stopped }

-- how many bytes these lines have, each with its line feed
abbrev pub bytes_of : List (List ℕ) → ℕ
bytes_of [] = 0
bytes_of (l ∷ ls) = length l + 1 + bytes_of ls
