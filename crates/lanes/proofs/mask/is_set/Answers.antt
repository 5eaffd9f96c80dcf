use Rattle.std.proofs.Common.{◌≡◌, ap, ◌∙◌, arith}
use Rattle.std.proofs.lemmas.Grind.{common_steps}
use Rattle.lanes.specs.Kernels.{is_set}
use Rattle.lanes.proofs.Bits.{is_set-packed}
use Rattle.lanes.proofs.mask.is_set.Goals as goal

pub returns-clause-packed : goal.returns-clause-packed
returns-clause-packed c bits e =
    let set : c.is_some_and.result ≡ is_set c.args.mask.now c.args.i = grind (arith, common_steps) in
    set ∙ ap (λ words. is_set words c.args.i) e ∙ is_set-packed bits c.args.i
