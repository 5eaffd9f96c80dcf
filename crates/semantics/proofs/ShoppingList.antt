-- A list of three items: in the world of one engine, as operations to send, and as a set.
use Rattle.std.specs.Prelude.{◌≡◌, ℕ, List, [], ◌∷◌, codes, reverse, refl}
use Rattle.semantics.specs.Ids.{id_at}
use Rattle.semantics.specs.Elements.{Item, At, HeadOf, Text, EmptyMap, EmptyList, Doc}
use Rattle.semantics.specs.Operations.{Assign, Insert}
use Rattle.semantics.specs.Questions.{Step, Get, Idx, Keys, Items, Values, Question, KeysAre, ItemsAre, ValuesAre}
use Rattle.semantics.specs.Making.{Command}
use Rattle.semantics.specs.Entries.{stamped_entries}
use Rattle.semantics.specs.LegalAnswer.{Made, OfDocument, Answered}
use Rattle.semantics.specs.Replica.{Replica}
use Rattle.semantics.specs.Engine.{StepReply, Ticket, Published, Unanswered, Replied, Read}
use Rattle.semantics.specs.World.{WorldStep, Push, WholeStep, Poll, Ask, opened, replies_of, step_by}
use Rattle.semantics.proofs.ExampleWords.{text, assign, insert, field, sent, new, after_commands, shown, engine}

abbrev pub shopping : List Step
shopping = Get (codes "shopping") ∷ []

-- the n-th item
abbrev pub nth : ℕ → List Step
nth n = Get (codes "shopping") ∷ Idx n ∷ []

-- an empty map and an empty list; eggs; cheese before them; milk after the second item
abbrev pub commands : List Command
commands =
    assign [] EmptyMap
    ∷ assign shopping EmptyList
    ∷ insert (nth 0) (text (codes "eggs"))
    ∷ insert (nth 0) (text (codes "cheese"))
    ∷ insert (nth 2) (text (codes "milk"))
    ∷ []

-- replica 1 after these commands
abbrev pub list : Replica
list = after_commands (new 1) commands

-- the operations as they are sent, the oldest first
sent_operations : reverse (stamped_entries list.entries)
    ≡ sent 1 1 [] (At Doc) (Assign EmptyMap)
    ∷ sent 2 1 (id_at 1 1 ∷ []) (At (field (codes "shopping"))) (Assign EmptyList)
    ∷ sent 3 1 (id_at 2 1 ∷ []) (HeadOf (field (codes "shopping"))) (Insert (text (codes "eggs")))
    ∷ sent 4 1 (id_at 3 1 ∷ []) (HeadOf (field (codes "shopping"))) (Insert (text (codes "cheese")))
    ∷ sent 5 1 (id_at 4 1 ∷ []) (At (Item (field (codes "shopping")) (id_at 3 1))) (Insert (text (codes "milk")))
    ∷ []
sent_operations = refl

-- the same operations as a set
shown_items : shown list (Items shopping) ≡ ItemsAre (id_at 4 1 ∷ id_at 3 1 ∷ id_at 5 1 ∷ [])
shown_items = refl

shown_second : shown list (Values (nth 2)) ≡ ValuesAre ((id_at 3 1, Text (codes "eggs")) ∷ [])
shown_second = refl

-- the world of one engine: five commands, a whole step of the writer, five polls, and what a reader reads
abbrev reads : Question → WorldStep
reads q = step_by 0 (Ask 1 (OfDocument q))

abbrev steps : List WorldStep
steps =
    step_by 0 (Push 0 (assign [] EmptyMap))
    ∷ step_by 0 (Push 0 (assign shopping EmptyList))
    ∷ step_by 0 (Push 0 (insert (nth 0) (text (codes "eggs"))))
    ∷ step_by 0 (Push 0 (insert (nth 0) (text (codes "cheese"))))
    ∷ step_by 0 (Push 0 (insert (nth 2) (text (codes "milk"))))
    ∷ step_by 0 (Poll 0 5)
    ∷ step_by 0 WholeStep
    ∷ step_by 0 (Poll 0 1)
    ∷ step_by 0 (Poll 0 2)
    ∷ step_by 0 (Poll 0 3)
    ∷ step_by 0 (Poll 0 4)
    ∷ step_by 0 (Poll 0 5)
    ∷ reads (Keys [])
    ∷ reads (Items shopping)
    ∷ reads (Values (nth 1))
    ∷ reads (Values (nth 2))
    ∷ reads (Values (nth 3))
    ∷ []

abbrev replies : List StepReply
replies =
    Ticket 1
    ∷ Ticket 2
    ∷ Ticket 3
    ∷ Ticket 4
    ∷ Ticket 5
    ∷ Unanswered
    ∷ Published 5
    ∷ Replied (Made (id_at 1 1) 0)
    ∷ Replied (Made (id_at 2 1) 1)
    ∷ Replied (Made (id_at 3 1) 2)
    ∷ Replied (Made (id_at 4 1) 3)
    ∷ Replied (Made (id_at 5 1) 4)
    ∷ Read 5 (Answered (KeysAre (codes "shopping" ∷ [])))
    ∷ Read 5 (Answered (ItemsAre (id_at 4 1 ∷ id_at 3 1 ∷ id_at 5 1 ∷ [])))
    ∷ Read 5 (Answered (ValuesAre ((id_at 4 1, Text (codes "cheese")) ∷ [])))
    ∷ Read 5 (Answered (ValuesAre ((id_at 3 1, Text (codes "eggs")) ∷ [])))
    ∷ Read 5 (Answered (ValuesAre ((id_at 5 1, Text (codes "milk")) ∷ [])))
    ∷ []

world : replies_of (opened (engine 1 ∷ [])) steps ≡ replies
world = refl
