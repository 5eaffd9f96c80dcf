use Rattle.std.proofs.Common.{◌≡◌, false, rules, refl, ap, ap₂, ◌∙◌, codes}
use Rattle.std.proofs.lemmas.Result.{IfOk-weaker}
use Rattle.clap.specs.Simple.{app_of_fields}
use Rattle.clap.specs.Words.{app_of, new_app, rule_of, with_rule}
use Rattle.clap.specs.declared.builder.command.Command.TheViews.{out-Command}
use Rattle.cli.specs.Words.{number_rule, queue_rule}
use Rattle.cli.proofs.words.bench_command.Goals as goal

pub returns-clause-words : goal.returns-clause-words
returns-clause-words c =
    let named : app_of c.about.result ≡ new_app (codes "bench") = ap app_of_fields c.about.ensures ∙ c.new.ensures.app in
    let replicas : rule_of c.help.result ≡ number_rule (codes "replicas") 16 = search rules in
    let writers : rule_of c.help-2.result ≡ number_rule (codes "writers") 16 = search rules in
    let ops : rule_of c.help-3.result ≡ number_rule (codes "ops") 4096 = search rules in
    let queue : rule_of c.queue_option.result ≡ queue_rule = search rules in
    let one = c.in_ok-arg.ensures.shape (search rules) ∙ ap₂ with_rule named replicas in
    let two = c.in_ok-arg-2.ensures.shape (search rules) ∙ ap₂ with_rule one writers in
    let three = c.in_ok-arg-3.ensures.shape (search rules) ∙ ap₂ with_rule two ops in
    IfOk-weaker c.arg-4.result _ _ (λ r added. added.shape (search rules) ∙ ap₂ with_rule three queue) c.arg-4.ensures

pub returns-clause-local : goal.returns-clause-local
returns-clause-local c =
    let three : (out-Command c.in_ok-arg-3.field-0).has_globals ≡ false = search rules in
    let last : c.queue_option.result.global ≡ false = search rules in
    IfOk-weaker c.arg-4.result _ _ (λ r added. added.globals ∙ rw (three, last) refl) c.arg-4.ensures
