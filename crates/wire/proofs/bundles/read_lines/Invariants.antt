-- What is left decides, relative to the reader's base, after the operations so far.
use Rattle.std.proofs.Common.{◌≡◌, [], map, length}
use Rattle.operation.specs.Ops.{stamped_of}
use Rattle.wire.specs.Bundles.{readable}
use Rattle.wire.proofs.BundleLines.{after}
use Rattle.wire.proofs.bundles.read_lines.Given as goal

abbrev pub decreases-loop-line : goal.decreases-loop-line
decreases-loop-line l = length l.lines.rest.now

abbrev pub invariant-loop-line : goal.invariant-loop-line
invariant-loop-line l = record {
  left : after (map stamped_of l.ops.items) (readable l.reader l.lines.rest.now) ≡ readable [] l.fn.text;
}
