use Rattle.std.proofs.Common.{rules, ◌≡◌, suc, ◌∙◌}
use Rattle.bench.specs.Workers.{requests_by}
use Rattle.bench.proofs.Submitting.{one_more}
use Rattle.bench.proofs.working.worker.Goals as goal

pub returns-in_err-await_answer-clause-requests : goal.returns-in_err-await_answer-clause-requests
returns-in_err-await_answer-clause-requests g c =
    let waited : requests_by c.wait_at.new.client ≡ requests_by c.loop-number.client = search rules in (
      suc c.loop-number.number,
      search rules,
      search rules,
      one_more c.args.key.now c.args.client.now c.wait_at.new.client c.submit.new.client c.await_answer.new.client c.loop-number.number
          (waited ∙ c.loop-number.invariant.requests) c.in_ok-ticket.ensures.requests c.await_answer.ensures.requests,
    )

pub returns-in_err-is_read-clause-requests : goal.returns-in_err-is_read-clause-requests
returns-in_err-is_read-clause-requests g c =
    let waited : requests_by c.wait_at.new.client ≡ requests_by c.loop-number.client = search rules in
    let asked : requests_by c.is_read.new.client ≡ requests_by c.await_answer.new.client = search rules in (
      suc c.loop-number.number,
      search rules,
      search rules,
      one_more c.args.key.now c.args.client.now c.wait_at.new.client c.submit.new.client c.is_read.new.client c.loop-number.number
          (waited ∙ c.loop-number.invariant.requests) c.in_ok-ticket.ensures.requests (asked ∙ c.await_answer.ensures.requests),
    )

pub returns-then-not-branch-clause-requests : goal.returns-then-not-branch-clause-requests
returns-then-not-branch-clause-requests g c =
    let waited : requests_by c.wait_at.new.client ≡ requests_by c.loop-number.client = search rules in
    let asked : requests_by c.is_read.new.client ≡ requests_by c.await_answer.new.client = search rules in (
      suc c.loop-number.number,
      search rules,
      search rules,
      one_more c.args.key.now c.args.client.now c.wait_at.new.client c.submit.new.client c.is_read.new.client c.loop-number.number
          (waited ∙ c.loop-number.invariant.requests) c.in_ok-ticket.ensures.requests (asked ∙ c.await_answer.ensures.requests),
    )
