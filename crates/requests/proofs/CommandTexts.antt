-- The JSON of a command has whole numbers of 64 bits alone, and nests little.
use Rattle.std.proofs.Common.{◌≤◌, List, [], ◌∷◌, map, arith}
use Rattle.semantics.specs.Operations.{Mutation, Assign, Insert, Delete}
use Rattle.semantics.specs.Making.{Command}
use Rattle.semantics.specs.Questions.{Step, Get, Idx, ById}
use Rattle.serde_json.specs.Data.{depth, items_depth}
use Rattle.serde_json.specs.View.{items_of}
use Rattle.wire.specs.Sent.{IsSentMutation}
use Rattle.wire.proofs.ShallowForms.{depth-json_of}
use Rattle.wire.proofs.WholeOperations.{counter, replica, value}
use Rattle.wire.proofs.WholeTexts.{HasWhole, ItemsHaveWhole}
use Rattle.requests.specs.Written.{AreSentSteps, IsSentCommand, command_json, mutation_at_json, path_step_json}

steps : (e : List Step) → AreSentSteps e → ItemsHaveWhole (items_of (map path_step_json e))
steps [] h = tt
steps (Get key ∷ e) h = (tt, steps e h.1)
steps (Idx i ∷ e) h = (h.0, steps e h.1)
steps (ById a ∷ e) h = ((counter a h.0, (replica a h.0, tt)), steps e h.1)

at_steps : (e : List Step) (m : Mutation) → AreSentSteps e → IsSentMutation m → HasWhole (mutation_at_json e m)
at_steps e (Assign v) h w = (tt, (steps e h, (value v w, tt)))
at_steps e (Insert v) h w = (tt, (steps e h, (value v w, tt)))
at_steps e Delete h w = (tt, (steps e h, tt))

pub command_whole : (c : Command) → IsSentCommand c → HasWhole (command_json c)
command_whole c h = at_steps c.expression c.mutation h.expression h.mutation

depth-steps : (e : List Step) → items_depth (items_of (map path_step_json e)) ≤ 1
depth-steps [] = omega arith
depth-steps (Get key ∷ e) = omega (arith, depth-steps e)
depth-steps (Idx i ∷ e) = omega (arith, depth-steps e)
depth-steps (ById a ∷ e) = omega (arith, depth-steps e)

depth-at_steps : (e : List Step) (m : Mutation) → depth (mutation_at_json e m) ≤ 3
depth-at_steps e (Assign v) = omega (arith, depth-steps e, depth-json_of v)
depth-at_steps e (Insert v) = omega (arith, depth-steps e, depth-json_of v)
depth-at_steps e Delete = omega (arith, depth-steps e)

pub depth-command_json : (c : Command) → depth (command_json c) ≤ 3
depth-command_json c = depth-at_steps c.expression c.mutation
