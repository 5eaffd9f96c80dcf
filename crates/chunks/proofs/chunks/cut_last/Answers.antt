use Rattle.std.proofs.Common.{◌++◌, ap}
use Rattle.std.specs.Prelude.{option_map}
use Rattle.chunks.specs.Chunks.{items_before}
use Rattle.chunks.proofs.chunks.cut_last.Goals as goal

pub returns-in_err-take_first-in-None-clause-same : goal.returns-in_err-take_first-in-None-clause-same
returns-in_err-take_first-in-None-clause-same g c =
    ap (λ xs. items_before (option_map (λ f. f.value) c.args.front.now) ++ xs) c.in_err-take_first-in-None.ensures.refused
