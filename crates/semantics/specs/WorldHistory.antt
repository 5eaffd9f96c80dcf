-- What is said of every run of a world.
use Rattle.std.specs.Prelude.{◌≡◌, ◌⊎◌, ℕ, suc, ◌≤◌, ◌==◌, cond, List, [], ◌∷◌, ◌++◌, map, Option, None, Some, slice_get}
use Rattle.ids.specs.Configurations.{Configuration}
use Rattle.semantics.specs.LegalHistory.{IsAmong}
use Rattle.semantics.specs.Entries.{Entry}
use Rattle.semantics.specs.LegalAnswer.{Submitted, Reply, Made, RefusedAt, KeptAt, KnownAt}
use Rattle.semantics.specs.Engine.{Engine, Client, Cell, Given, Handled}
use Rattle.semantics.specs.ReadSteps.{cell_under, seen_by}
use Rattle.semantics.specs.World.{WorldStep, opened, world_after}

-- E is engine e of the world after these steps
abbrev pub IsEngineAfter : List Configuration → List WorldStep → (engine : ℕ) → Engine → Type 0
IsEngineAfter cs steps e E = slice_get (world_after (opened cs) steps).engines e ≡ Some E

-- G begins with F; both have the newest first
abbrev pub BeginsWith : List Entry → List Entry → Type 0
BeginsWith G F = (more : List Entry) × (G ≡ more ++ F)

-- x is what client c submitted under the serial
abbrev pub WasSubmitted : Engine → (client serial : ℕ) → Submitted → Type 0
WasSubmitted E c serial x = (cell : Cell) × (cell_under E c serial ≡ Some cell) × (cell.submitted ≡ x)

-- g is the answer to client c's serial
abbrev pub WasGiven : Engine → (client serial : ℕ) → Given → Type 0
WasGiven E c serial g = (cell : Cell) × (cell_under E c serial ≡ Some cell) × (cell.answer ≡ Some g)

-- r is what the writer replied to client c's serial: its answer, or the reply of a handled submission that isn't answered yet
abbrev pub WasReplied : Engine → (client serial : ℕ) → Reply → Type 0
WasReplied E c serial r =
    ((g : Given) × WasGiven E c serial g × (g.reply ≡ r))
    ⊎ ((h : Handled) × IsAmong h (E.due ++ E.handled) × (h.submitted.client ≡ c) × (h.submitted.serial ≡ serial) × (h.reply ≡ r))

-- the position or the length that a reply names isn't below the floor
abbrev pub IsNotBelow : (floor : ℕ) → Reply → Type 0
IsNotBelow floor (Made a n) = floor ≤ n
IsNotBelow floor (RefusedAt why m) = floor ≤ m
IsNotBelow floor (KeptAt m) = floor ≤ m
IsNotBelow floor (KnownAt m) = floor ≤ m

-- F is E later: its number and its members stay, the history and what is published of it only got longer, no token has seen less,
-- and what was submitted, replied and answered stays
pub record HasGrown (E F : Engine) : Type 0 where
  pub own : F.replica.own ≡ E.replica.own
  pub members : F.replica.members ≡ E.replica.members
  pub entries : BeginsWith F.replica.entries E.replica.entries
  pub published : E.published ≤ F.published
  pub seen : (t : ℕ) → seen_by E t ≤ seen_by F t
  pub submitted : (c serial : ℕ) (x : Submitted) → WasSubmitted E c serial x → WasSubmitted F c serial x
  pub replied : (c serial : ℕ) (r : Reply) → WasReplied E c serial r → WasReplied F c serial r
  pub given : (c serial : ℕ) (g : Given) → WasGiven E c serial g → WasGiven F c serial g

-- ---- all that was submitted

-- the submissions of one client, in order
abbrev pub of_client : (client : ℕ) → List Submitted → List Submitted
of_client c [] = []
of_client c (x ∷ xs) = cond (x.client == c) (x ∷ of_client c xs) (of_client c xs)

-- what was submitted and isn't answered, the oldest first: what is due, what is handled, and the queue
abbrev pub unanswered : Engine → List Submitted
unanswered E = map (λ h. h.submitted) E.due ++ (map (λ h. h.submitted) E.handled ++ E.queue)

-- the cells of client c, none where there is no such client
abbrev pub cells_of : Engine → (client : ℕ) → List Cell
cells_of E c = in_client (slice_get E.clients c)
  where
    in_client : Option Client → List Cell
    in_client None = []
    in_client (Some k) = k.cells

-- All that client c submitted is there. Its cells are those of the serials 1, 2, 3 and so on. The first ones have an answer.
-- The rest are the cells of the client's unanswered submissions, each as it was submitted, once, and in order.
pub record HasAllSubmitted (E : Engine) (c : ℕ) : Type 0 where
  pub serials : (n : ℕ) (cell : Cell) → slice_get (cells_of E c) n ≡ Some cell
      → (cell.submitted.client ≡ c) × (cell.submitted.serial ≡ suc n)
  pub answered : List Cell
  pub given : (cell : Cell) → IsAmong cell answered → (g : Given) × (cell.answer ≡ Some g)
  pub cells : cells_of E c ≡ answered ++ map (λ x. record { submitted = x; answer = None }) (of_client c (unanswered E))
