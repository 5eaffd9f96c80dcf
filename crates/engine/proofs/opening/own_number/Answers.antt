use Rattle.std.proofs.Common.{ap, arith}
use Rattle.ids.specs.Configurations.{Configuration}
use Rattle.engine.proofs.Limits.{limits}
use Rattle.engine.proofs.opening.own_number.Goals as goal

pub unreachable-requires : goal.unreachable-requires
unreachable-requires c = omega
    (arith, (limits c.args.config.now c.requires).own, ap (λ (k : Configuration). k.own) c.config.view_is, c.in_default.ensures)
