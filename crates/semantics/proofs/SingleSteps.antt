-- A world of one engine with two clients, in single steps: a full queue, a batch, and answers after what is published.
use Rattle.std.specs.Prelude.{◌≡◌, ℕ, List, [], ◌∷◌, codes, pos, refl}
use Rattle.ids.specs.Configurations.{Configuration}
use Rattle.ids.specs.declared.refusal.Refusal.TheVariants.{QueueFull, Foreign}
use Rattle.semantics.specs.Ids.{id_at}
use Rattle.semantics.specs.Elements.{Whole as WholeNumber}
use Rattle.semantics.specs.Questions.{Step, Get, Values, ValuesAre}
use Rattle.semantics.specs.Making.{Command}
use Rattle.semantics.specs.LegalAnswer.{Made, Asked, OfDocument, Answered}
use Rattle.semantics.specs.Engine.{StepReply, Ticket, Denied, Took, Published, Gave, Idle, Unanswered, Replied, Read}
use Rattle.semantics.specs.World.{WorldStep, Push, Take, Publish, Give, Poll, Ask, opened, replies_of, step_by}
use Rattle.semantics.proofs.ExampleWords.{whole, assign}

abbrev configuration : Configuration
configuration = record { own = 1; members = 1 ∷ []; clients = 2; readers = 1; queue = 1; batch = 4; serials = 100 }

abbrev a : List Step
a = Get (codes "a") ∷ []

abbrev assign_a : ℕ → Command
assign_a n = assign a (whole n)

abbrev values_of_a : Asked
values_of_a = OfDocument (Values a)

abbrev steps : List WorldStep
steps =
    step_by 0 (Push 0 (assign_a 1))
    ∷ step_by 0 (Push 1 (assign_a 2))
    ∷ step_by 0 Take
    ∷ step_by 0 (Ask 0 values_of_a)
    ∷ step_by 0 (Push 1 (assign_a 2))
    ∷ step_by 0 Take
    ∷ step_by 0 Give
    ∷ step_by 0 Publish
    ∷ step_by 0 (Poll 0 1)
    ∷ step_by 0 Give
    ∷ step_by 0 (Poll 0 1)
    ∷ step_by 0 (Ask 0 values_of_a)
    ∷ step_by 0 (Poll 1 1)
    ∷ step_by 0 (Poll 1 7)
    ∷ step_by 0 Give
    ∷ step_by 0 (Poll 1 1)
    ∷ step_by 0 Take
    ∷ []

-- nothing is answered before it is published, and no token sees what isn't published
abbrev replies : List StepReply
replies =
    Ticket 1
    ∷ Denied QueueFull
    ∷ Took
    ∷ Read 0 (Answered (ValuesAre []))
    ∷ Ticket 1
    ∷ Took
    ∷ Idle
    ∷ Published 2
    ∷ Unanswered
    ∷ Gave 0 1
    ∷ Replied (Made (id_at 1 1) 0)
    ∷ Read 2 (Answered (ValuesAre ((id_at 2 1, WholeNumber (pos 2)) ∷ [])))
    ∷ Unanswered
    ∷ Denied Foreign
    ∷ Gave 1 1
    ∷ Replied (Made (id_at 2 1) 1)
    ∷ Idle
    ∷ []

world : replies_of (opened (configuration ∷ [])) steps ≡ replies
world = refl
