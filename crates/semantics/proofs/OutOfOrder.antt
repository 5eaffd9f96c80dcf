-- Operations that come in the wrong order, and again.
use Rattle.std.specs.Prelude.{◌≡◌, [], ◌∷◌, codes, refl}
use Rattle.semantics.specs.Ids.{id_at}
use Rattle.semantics.specs.Elements.{Element, Doc, At, HeadOf, EmptyMap, EmptyList}
use Rattle.semantics.specs.Operations.{Assign, Insert, Delete}
use Rattle.semantics.specs.Questions.{Get}
use Rattle.semantics.specs.Stamped.{Stamped}
use Rattle.semantics.specs.Replica.{Replica}
use Rattle.semantics.specs.Delivery.{Kept, Known, answer_to}
use Rattle.semantics.specs.Drain.{receive}
use Rattle.semantics.proofs.ExampleWords.{text, assign, field, sent, new, after_commands, history, held}

abbrev shopping : Element
shopping = field (codes "shopping")

abbrev first : Stamped
first = sent 1 1 [] (At Doc) (Assign EmptyMap)

abbrev second : Stamped
second = sent 2 1 (id_at 1 1 ∷ []) (At shopping) (Assign EmptyList)

abbrev third : Stamped
third = sent 3 1 (id_at 2 1 ∷ []) (HeadOf shopping) (Insert (text (codes "eggs")))

-- the third comes to a new replica, and waits
third_answer : answer_to (new 2) third ≡ Kept
third_answer = refl

abbrev after_third : Replica
after_third = receive (new 2) third

third_history : history after_third ≡ []
third_history = refl

third_held : held after_third ≡ id_at 3 1 ∷ []
third_held = refl

-- it comes again while it waits, which changes nothing
third_again : answer_to after_third third ≡ Known
third_again = refl

third_unchanged : receive after_third third ≡ after_third
third_unchanged = refl

-- the second comes, and waits too
second_answer : answer_to after_third second ≡ Kept
second_answer = refl

abbrev after_second : Replica
after_second = receive after_third second

second_history : history after_second ≡ []
second_history = refl

second_held : held after_second ≡ id_at 2 1 ∷ id_at 3 1 ∷ []
second_held = refl

-- the first comes, and all are applied in order
first_answer : answer_to after_second first ≡ Kept
first_answer = refl

abbrev after_first : Replica
after_first = receive after_second first

first_history : history after_first ≡ id_at 1 1 ∷ id_at 2 1 ∷ id_at 3 1 ∷ []
first_history = refl

first_held : held after_first ≡ []
first_held = refl

-- what was applied is known, and isn't applied twice
applied_again : answer_to after_first third ≡ Known
applied_again = refl

applied_unchanged : receive after_first third ≡ after_first
applied_unchanged = refl

-- ---- an own operation may make what waits ready, which goes on waiting until the next delivery

abbrev later : Stamped
later = sent 2 2 (id_at 1 1 ∷ []) (At (field (codes "a"))) Delete

abbrev after_own : Replica
after_own = after_commands (receive (new 1) later) (assign (Get (codes "a") ∷ []) EmptyMap ∷ [])

own_history : history after_own ≡ id_at 1 1 ∷ []
own_history = refl

own_held : held after_own ≡ id_at 2 2 ∷ []
own_held = refl

-- also where that delivery is known
later_again : answer_to after_own later ≡ Known
later_again = refl

drained_history : history (receive after_own later) ≡ id_at 1 1 ∷ id_at 2 2 ∷ []
drained_history = refl
