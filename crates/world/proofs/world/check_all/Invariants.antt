use Rattle.std.proofs.Common.{◌≡◌, drop}
use Rattle.std.specs.List.{list_all}
use Rattle.ids.specs.Configurations.{is_within_limits}
use Rattle.world.proofs.world.check_all.Given as goal

abbrev pub invariant-loop-config : goal.invariant-loop-config
invariant-loop-config l = list_all is_within_limits (drop l.config-index l.configs) ≡ list_all is_within_limits l.configs
