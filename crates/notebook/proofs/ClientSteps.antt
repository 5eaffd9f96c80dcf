-- A client that was just made, and what a client has submitted last.
use Rattle.std.proofs.Common.{◌≡◌, ◌∙◌, ◌+◌, ◌-◌, List, [], ◌∷◌, ◌++◌, All, length, refl, ap, subst, arith}
use Rattle.std.proofs.Math.ListN.{get_or}
use Rattle.std.proofs.Math.Seq.{get_or-append_seam}
use Rattle.std.proofs.lemmas.List.{length-append, length-map, map-append}
use Rattle.std.specs.Prelude.{slice_get}
use Rattle.ids.proofs.LongerLists.{get-append_last}
use Rattle.ids.specs.Configurations.{Configuration}
use Rattle.engine.specs.Clients.{Client, IsNewClient, submissions_by, with_request}
use Rattle.engine.specs.command.declared.ticket.Ticket.{Ticket}
use Rattle.engine.specs.operation.declared.command.Command.{Command}
use Rattle.engine.specs.operation.declared.op.Op.{Op}
use Rattle.engine.specs.operation.declared.submission.Submission.{Submission}
use Rattle.engine.specs.operation.declared.submission.Request.TheVariants as request
use Rattle.engine.specs.operation.Ops.{command_of}
use Rattle.journal.specs.peer_sync.Receiving.{all_submitted, submitted}
use Rattle.notebook.specs.Notebooks.{IsCommandUnder}

-- the last of new clients has seen nothing
pub new_seen : (config : Configuration) (xs ys : List Client) (x : Client) → xs ≡ ys ++ x ∷ [] → All (IsNewClient config) xs → x.seen ≡ []
new_seen config xs ys x is all =
    let long = ap length is in
    let one = length-append ys (x ∷ []) in
    let new : IsNewClient config (get_or xs (length ys) x) = all (length ys) x (omega (arith, long, one)) in
    (subst (IsNewClient config) (ap (λ (l : List Client). get_or l (length ys) x) is ∙ get_or-append_seam ys x [] x) new).seen

-- operations are submitted without a read
pub all_seen : (c : Client) (ops : List Op) → (all_submitted c ops).seen ≡ c.seen
all_seen c [] = refl
all_seen c (op ∷ ops) = all_seen (submitted c op) ops

-- the ticket of a command that was just submitted
pub under_last : (c d : Client) (ticket : Ticket) (command : Command) → d ≡ with_request c (request.Command command)
    → ticket.serial ≡ length c.kept + 1 → IsCommandUnder d ticket (command_of command)
under_last c d ticket command is serial =
    let x : Submission = record {
      client = c.number;
      serial = length c.kept + 1;
      floor = length c.seen;
      request = request.Command command;
    } in
    let place : ticket.serial - 1
    ≡ length (submissions_by c) = (let l = length-map c.kept (λ k. k.submission) in omega (arith, serial, l)) in (
      x,
      ap (slice_get (submissions_by d)) place
          ∙ ap (λ (z : Client). slice_get (submissions_by z) (length (submissions_by c))) is
          ∙ ap (λ (l : List Submission). slice_get l (length (submissions_by c))) (map-append (λ k. k.submission) c.kept _)
          ∙ get-append_last (submissions_by c) x,
      refl,
    )
