-- Worlds of one engine that take whole steps.
use Rattle.std.specs.Prelude.{◌≡◌, ℕ, List, [], ◌∷◌, codes, pos, refl}
use Rattle.ids.specs.Configurations.{Configuration}
use Rattle.ids.specs.declared.refusal.Refusal.TheVariants.{QueueFull, SerialEnd, Foreign}
use Rattle.semantics.specs.Ids.{id_at}
use Rattle.semantics.specs.Elements.{Whole as WholeNumber}
use Rattle.semantics.specs.Questions.{Step, Get, Keys, Values, KeysAre, ValuesAre}
use Rattle.semantics.specs.Making.{Command}
use Rattle.semantics.specs.LegalAnswer.{Made, OfDocument, Reading, Answered}
use Rattle.semantics.specs.Engine.{Ticket, Denied, Published, Unanswered, Replied, Read, Idle}
use Rattle.semantics.specs.World.{WorldStep, Push, WholeStep, Poll, Ask, opened, replies_of, step_by}
use Rattle.semantics.proofs.ExampleWords.{whole, assign, engine}

abbrev a : List Step
a = Get (codes "a") ∷ []

abbrev assign_a : ℕ → Command
assign_a n = assign a (whole n)

-- token t of the engine reads the field
abbrev reads_a : ℕ → WorldStep
reads_a t = step_by 0 (Ask t (OfDocument (Values a)))

abbrev one_at_a : Reading
one_at_a = Answered (ValuesAre ((id_at 1 1, WholeNumber (pos 1)) ∷ []))

-- a new engine has no field, and its tokens have seen nothing
new_engine : replies_of (opened (engine 1 ∷ [])) (step_by 0 (Ask 1 (OfDocument (Keys []))) ∷ []) ≡ Read 0 (Answered (KeysAre [])) ∷ []
new_engine = refl

-- one write and one reading, in an engine without other members
abbrev alone : Configuration
alone = record { own = 1; members = 1 ∷ []; clients = 1; readers = 1; queue = 4; batch = 4; serials = 10 }

one_write : replies_of (opened (alone ∷ [])) (step_by 0 (Push 0 (assign_a 1)) ∷ step_by 0 WholeStep ∷ step_by 0 (Poll 0 1) ∷ reads_a 1 ∷ [])
    ≡ Ticket 1 ∷ Published 1 ∷ Replied (Made (id_at 1 1) 0) ∷ Read 1 one_at_a ∷ []
one_write = refl

-- the client reads what it wrote, and a reader too; until the writer's step nothing is answered and nothing is seen
own_write : replies_of (opened (engine 1 ∷ []))
    (step_by 0 (Push 0 (assign_a 1)) ∷ step_by 0 (Poll 0 1) ∷ reads_a 1 ∷ step_by 0 WholeStep ∷ step_by 0
    (Poll 0 1) ∷ reads_a 0 ∷ reads_a 1 ∷ step_by 0 (Poll 0 1) ∷ step_by 0 WholeStep ∷ [])
    ≡ Ticket 1 ∷ Unanswered ∷ Read 0 (Answered (ValuesAre [])) ∷ Published 1 ∷ Replied
    (Made (id_at 1 1) 0) ∷ Read 1 one_at_a ∷ Read 1 one_at_a ∷ Replied (Made (id_at 1 1) 0) ∷ Idle ∷ []
own_write = refl

-- a full queue takes no command, and no serial is used up
full_queue : replies_of (opened (record alone { queue = 1 } ∷ []))
    (step_by 0 (Push 0 (assign_a 1)) ∷ step_by 0 (Push 0 (assign_a 2)) ∷ step_by 0 WholeStep ∷ step_by 0 (Push 0 (assign_a 2)) ∷ [])
    ≡ Ticket 1 ∷ Denied QueueFull ∷ Published 1 ∷ Ticket 2 ∷ []
full_queue = refl

-- a serial that was never taken, and no serial 0
foreign_serials : replies_of (opened (engine 1 ∷ []))
    (step_by 0 (Poll 0 1) ∷ step_by 0 (Poll 0 0) ∷ step_by 0 (Push 0 (assign_a 1)) ∷ step_by 0 (Poll 0 2) ∷ step_by 0 (Poll 0 1) ∷ [])
    ≡ Denied Foreign ∷ Denied Foreign ∷ Ticket 1 ∷ Denied Foreign ∷ Unanswered ∷ []
foreign_serials = refl

-- one serial alone
last_serial : replies_of (opened (record alone { serials = 1 } ∷ []))
    (step_by 0 (Push 0 (assign_a 1)) ∷ step_by 0 (Push 0 (assign_a 2)) ∷ step_by 0 WholeStep ∷ step_by 0 (Push 0 (assign_a 2)) ∷ [])
    ≡ Ticket 1 ∷ Denied SerialEnd ∷ Published 1 ∷ Denied SerialEnd ∷ []
last_serial = refl

-- a step answers a batch at most
batches : replies_of (opened (record alone { batch = 2 } ∷ []))
    (step_by 0 (Push 0 (assign_a 1)) ∷ step_by 0 (Push 0 (assign_a 2)) ∷ step_by 0
    (Push 0 (assign_a 3)) ∷ step_by 0 WholeStep ∷ step_by 0 WholeStep ∷ step_by 0 WholeStep ∷ [])
    ≡ Ticket 1 ∷ Ticket 2 ∷ Ticket 3 ∷ Published 2 ∷ Published 1 ∷ Idle ∷ []
batches = refl
