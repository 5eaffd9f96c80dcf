-- What is left decides whether all fit.
use Rattle.std.proofs.Common.{◌≡◌, take, drop}
use Rattle.std.specs.List.{list_all}
use Rattle.scripts.specs.Engines.{all_fit}
use Rattle.scripts.proofs.configuration.configurations_of.Given as goal

abbrev pub invariant-loop-engine : goal.invariant-loop-engine
invariant-loop-engine l = record {
  copied : l.all.items ≡ take l.engine-index l.engines;
  left : list_all all_fit (drop l.engine-index l.engines) ≡ list_all all_fit l.engines;
}
