-- What is written of a command is read as that command.
use Rattle.std.proofs.Common.{◌≡◌, List, [], ◌∷◌, length, map, Ok, refl, ap}
use Rattle.std.proofs.lemmas.Bool.{le-ltb}
use Rattle.semantics.specs.Operations.{Mutation, Assign, Insert, Delete}
use Rattle.semantics.specs.Making.{Command}
use Rattle.semantics.specs.Questions.{Step, Get, Idx, ById}
use Rattle.serde_json.specs.View.{items_of}
use Rattle.wire.specs.Sent.{IsSentMutation}
use Rattle.wire.specs.Forms.{and_then}
use Rattle.wire.proofs.ReadBack.{id_back, value_back}
use Rattle.requests.specs.declared.edition.Edition.TheVariants.{Second}
use Rattle.requests.specs.Expressions.{path_step_form, path_steps_of}
use Rattle.requests.specs.Commands.{command_form}
use Rattle.requests.specs.Written.{AreSentSteps, AreTypedSteps, HasCounters, IsSentCommand, IsSentStep, command_json, path_step_json}
use Rattle.requests.specs.Written.{mutation_at_json}

step_back : (s : Step) → IsSentStep s → path_step_form Second (path_step_json s) ≡ Ok s
step_back (Get key) h = rw (le-ltb 256 (length key) h) refl
step_back (Idx i) h = refl
step_back (ById a) h = ap (and_then (λ b. Ok (ById b))) (id_back a h)

steps_back : (e : List Step) → AreSentSteps e → path_steps_of Second (items_of (map path_step_json e)) ≡ Ok e
steps_back [] h = refl
steps_back (s ∷ e) h = rw (step_back s h.0, steps_back e h.1) refl

pub command_back : (c : Command) → IsSentCommand c → command_form Second (command_json c) ≡ Ok c
command_back c h = by c.mutation h.mutation
  where
    by : (m : Mutation) → IsSentMutation m
        → command_form Second (mutation_at_json c.expression m) ≡ Ok (record { expression = c.expression; mutation = m })
    by (Assign v) w = rw (steps_back c.expression h.expression, value_back v w) refl
    by (Insert v) w = rw (steps_back c.expression h.expression, value_back v w) refl
    by Delete w = rw (steps_back c.expression h.expression) refl

-- what types guarantee and a caller answers for is all that a step needs
steps_sent : (e : List Step) → AreTypedSteps e → HasCounters e → AreSentSteps e
steps_sent [] typed counted = tt
steps_sent (Get key ∷ e) typed counted = (typed.0, steps_sent e typed.1 counted)
steps_sent (Idx i ∷ e) typed counted = (typed.0, steps_sent e typed.1 counted)
steps_sent (ById a ∷ e) typed counted = ((counted.0, typed.0), steps_sent e typed.1 counted.1)

pub command_sent : (c : Command) → AreTypedSteps c.expression → HasCounters c.expression → IsSentMutation c.mutation → IsSentCommand c
command_sent c typed counted within = record { expression = steps_sent c.expression typed counted; mutation = within }
