-- What is left decides whether all fit.
use Rattle.std.proofs.Common.{◌≡◌, take, drop}
use Rattle.std.specs.List.{list_all}
use Rattle.scripts.specs.Engines.{fits}
use Rattle.scripts.proofs.configuration.all_fitted.Given as goal

abbrev pub invariant-loop-number : goal.invariant-loop-number
invariant-loop-number l = record {
  copied : l.all.items ≡ take l.number-index l.numbers;
  left : list_all fits (drop l.number-index l.numbers) ≡ list_all fits l.numbers;
}
