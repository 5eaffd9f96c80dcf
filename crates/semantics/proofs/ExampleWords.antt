-- Words that the worked examples share.
use Rattle.std.specs.Prelude.{ℕ, pos, suc, List, [], ◌∷◌, length, map, reverse}
use Rattle.ids.specs.Configurations.{Configuration}
use Rattle.semantics.specs.Ids.{OpId}
use Rattle.semantics.specs.Elements.{Element, Doc, Field, Place, Text, Whole, Value, Plain}
use Rattle.semantics.specs.Operations.{Mutation, Assign, Insert, Delete}
use Rattle.semantics.specs.Vectors.{Vector}
use Rattle.semantics.specs.Questions.{Step, Question, Answer}
use Rattle.semantics.specs.NamedIds.{vector_of}
use Rattle.semantics.specs.DocumentAnswer.{document_answer}
use Rattle.semantics.specs.View.{view}
use Rattle.semantics.specs.Stamped.{Stamped}
use Rattle.semantics.specs.Making.{Command}
use Rattle.semantics.specs.Entries.{stamped_in, stamped_entries, missing}
use Rattle.semantics.specs.LegalAnswer.{OfCommand, Submitted}
use Rattle.semantics.specs.Replica.{Replica, operations}
use Rattle.semantics.specs.Drain.{receive_all}
use Rattle.semantics.specs.WriteSteps.{after_submission}
use Rattle.semantics.specs.Ids.{id_at}

-- the value that is a text, and that is a whole number
abbrev pub text : List ℕ → Value
text letters = Plain (Text letters)

abbrev pub whole : ℕ → Value
whole n = Plain (Whole (pos n))

-- commands
abbrev pub assign : List Step → Value → Command
assign x v = record { expression = x; mutation = Assign v }

abbrev pub insert : List Step → Value → Command
insert x v = record { expression = x; mutation = Insert v }

abbrev pub delete : List Step → Command
delete x = record { expression = x; mutation = Delete }

-- the field of the root with this name
abbrev pub field : List ℕ → Element
field name = Field Doc name

-- an operation as it is sent
abbrev pub sent : ℕ → ℕ → Vector → Place → Mutation → Stamped
sent c p v place m = record { id = id_at c p; vector = v; place = place; mutation = m }

-- replica p among 1, 2 and 3, new
abbrev pub new : ℕ → Replica
new p = record { own = p; members = 1 ∷ 2 ∷ 3 ∷ []; entries = []; waiting = []; dropped = 0 }

-- an item of client 0, with the next serial
abbrev pub item : Replica → Command → Submitted
item r c = record { client = 0; serial = suc (length r.entries); request = OfCommand c; floor = 0 }

-- the replica after these commands, the first of the list first
abbrev pub after_commands : Replica → List Command → Replica
after_commands r [] = r
after_commands r (c ∷ cs) = after_commands (after_submission r (item r c)) cs

-- r after it received all that it lacks of what the other has
abbrev pub after_bundle : Replica → Replica → Replica
after_bundle r other = receive_all r (missing (vector_of (operations r)) (stamped_entries other.entries))

-- the ids of the history, the oldest first, and of what waits
abbrev pub history : Replica → List OpId
history r = reverse (map (λ e. (stamped_in e).id) r.entries)

abbrev pub held : Replica → List OpId
held r = map (λ (s : Stamped). s.id) r.waiting

-- what the replica answers, and what its operations show as a set
abbrev pub answer : Replica → Question → Answer
answer r q = document_answer (operations r) q

abbrev pub shown : Replica → Question → Answer
shown r q = view (operations r) q

-- an engine of replica p among 1, 2 and 3, with one client and one reader, and every other number at its limit
abbrev pub engine : ℕ → Configuration
engine p = record { own = p; members = 1 ∷ 2 ∷ 3 ∷ []; clients = 1; readers = 1; queue = 65536; batch = 256; serials = 4294967295 }
