use Rattle.std.proofs.Common.{◌≡◌, length}
use Rattle.records.specs.wire.Lines.{cut}
use Rattle.store.specs.WholeLines.{first_own}
use Rattle.store.proofs.saved.Journal.own.Given as goal

abbrev pub decreases-loop-line : goal.decreases-loop-line
decreases-loop-line g l = length l.lines.rest.now

-- what is left decides
abbrev pub invariant-loop-line : goal.invariant-loop-line
invariant-loop-line g l = first_own (cut l.lines.rest.now).lines ≡ first_own (cut l.fn.self.bytes.items).lines
