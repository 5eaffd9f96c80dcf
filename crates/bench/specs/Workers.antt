-- What a worker submits, and what it has read back.
use Rattle.std.specs.Prelude.{ℕ, suc, zero, ◌≡◌, ◌++◌, ◌∷◌, [], List, map, pos}
use Rattle.semantics.specs.Ids.{OpId}
use Rattle.semantics.specs.Elements.{Whole, Plain}
use Rattle.semantics.specs.Entries.{Entry}
use Rattle.semantics.specs.Operations.{Assign}
use Rattle.semantics.specs.Making.{Command}
use Rattle.semantics.specs.Questions.{Get, Values, ValuesAre}
use Rattle.semantics.specs.LegalAnswer.{Request, OfCommand, OfDocument, Answered, reading_of}
use Rattle.peer_sync.specs.operation.Submissions.{request_of}
use Rattle.peer_sync.specs.engine.Clients.{Client, submissions_by}

-- what the client has asked of the writer so far, in order
abbrev pub requests_by : Client → List Request
requests_by c = map (λ x. request_of x.request) (submissions_by c)

-- the command that assigns the number at a key of the document
abbrev pub assignment : List ℕ → ℕ → Command
assignment key n = record { expression = Get key ∷ []; mutation = Assign (Plain (Whole (pos n))) }

-- the assignments of the numbers below n, in order
abbrev pub assignments : List ℕ → ℕ → List Request
assignments key zero = []
assignments key (suc n) = assignments key n ++ OfCommand (assignment key n) ∷ []

-- a reader of this history finds this number alone at the key
abbrev pub Shows : List Entry → List ℕ → ℕ → Type 0
Shows G key n = (a : OpId) × (reading_of G (OfDocument (Values (Get key ∷ []))) ≡ Answered (ValuesAre ((a, Whole (pos n)) ∷ [])))
