use Rattle.std.proofs.Common.{◌≡◌, rules, sym, ap, subst, arith}
use Rattle.std.specs.Prelude.{IfErr}
use Rattle.ids.specs.declared.refusal.Refusal.TheVariants.{NoMemory}
use Rattle.ids.specs.Configurations.{Configuration}
use Rattle.engine.proofs.Limits.{limits, no_memory_alone}
use Rattle.engine.proofs.opening.new_queue.Goals as goal

pub prove_eq-unreachable-requires : goal.prove_eq-unreachable-requires
prove_eq-unreachable-requires g c =
    let is : c.args.config.now.queue ≡ c.config.inside.queue = sym (ap (λ (k : Configuration). k.queue) c.config.view_is) in
    let fits = (limits c.args.config.now c.requires).queue in
    let alone = no_memory_alone c.new.result c.config.inside.queue (omega (arith, is, fits.0))
    (omega (arith, is, fits.1)) c.new.ensures.bad_config c.new.ensures.err in
    let memory : c.in-Err.why ≡ NoMemory = subst (λ r. IfErr r (λ why. why ≡ NoMemory)) c.in-Err.is alone in
    search (rules, memory)
