use Rattle.std.proofs.Common.{◌≡◌, ◌∙◌, List, ap}
use Rattle.engine.specs.Clients.{Client}
use Rattle.engine.specs.operation.declared.op.Op.{Op}
use Rattle.semantics.specs.Entries.{Entry}
use Rattle.journal.specs.peer_sync.Receiving.{all_submitted}
use Rattle.notebook.proofs.ClientSteps.{all_seen}
use Rattle.notebook.proofs.exchange.submit_all.Goals.{in-None, in-Some+in_default}
use Rattle.notebook.proofs.exchange.submit_all.Goals as goal

-- submitting a piece leaves what was seen
left : (c d : Client) (ops : List Op) (G : List Entry) → d ≡ record (all_submitted c ops) { found_full = d.found_full } → c.seen ≡ G
    → d.seen ≡ G
left c d ops G is same = ap (λ (k : Client). k.seen) is ∙ all_seen c ops ∙ same

pub returns-in_err-step-in-Some-default-QueueFull-clause-seen : goal.returns-in_err-step-in-Some-default-QueueFull-clause-seen
returns-in_err-step-in-Some-default-QueueFull-clause-seen g c =
    let s = c.receive_on-received.ensures.submitted in
    left c.loop.client c.receive_on-received.new.client s.0 c.args.client.now.seen s.2 c.loop.invariant

pub loop-preserved : goal.loop-preserved
loop-preserved g c =
    let s = c.receive_on-received.ensures.submitted in
    left c.loop.client c.receive_on-received.new.client s.0 c.args.client.now.seen s.2 c.loop.invariant

pub returns-clause-seen : goal.returns-clause-seen
returns-clause-seen g c =
    elim c.match-next.branch [
      | in-None w ↦ ap (λ (k : Client). k.seen) w.client-is ∙ c.loop.invariant
      | in-Some+in_default w ↦
          (let s = w.receive_on-received.ensures.submitted in
          ap (λ (k : Client). k.seen) w.client-is
          ∙ left c.loop.client w.receive_on-received.new.client s.0 c.args.client.now.seen s.2 c.loop.invariant)
    ]
