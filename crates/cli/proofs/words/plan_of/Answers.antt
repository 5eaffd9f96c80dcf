use Rattle.std.proofs.Common.{rules, ◌≡◌, None}
use Rattle.cli.proofs.FoundNumbers.{short_numbers}
use Rattle.cli.proofs.words.plan_of.Goals as goal

pub returns-in_err-number_of-clause-none : goal.returns-in_err-number_of-clause-none
returns-in_err-number_of-clause-none c = λ e plan is.
    let gone : c.number_of.result ≡ None = search rules in
    c.number_of.ensures.none gone plan.replicas (short_numbers plan).0 is.0

pub returns-in_err-number_of-2-clause-none : goal.returns-in_err-number_of-2-clause-none
returns-in_err-number_of-2-clause-none c = λ e plan is.
    let gone : c.number_of-2.result ≡ None = search rules in
    c.number_of-2.ensures.none gone plan.writers (short_numbers plan).1 is.1

pub returns-in_err-number_of-3-clause-none : goal.returns-in_err-number_of-3-clause-none
returns-in_err-number_of-3-clause-none c = λ e plan is.
    let gone : c.number_of-3.result ≡ None = search rules in
    c.number_of-3.ensures.none gone plan.ops (short_numbers plan).2 is.2

pub returns-in_err-number_of-4-clause-none : goal.returns-in_err-number_of-4-clause-none
returns-in_err-number_of-4-clause-none c = λ e plan is.
    let gone : c.number_of-4.result ≡ None = search rules in
    c.number_of-4.ensures.none gone plan.queue (short_numbers plan).3 is.3
