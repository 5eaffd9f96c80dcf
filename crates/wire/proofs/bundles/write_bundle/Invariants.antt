-- What is left follows the lines so far, relative to the vector of the last of them; and if each line of what is left is read as its
-- operation, each line is.
use Rattle.std.proofs.Common.{◌≡◌, ◌++◌, [], drop, map}
use Rattle.ids.specs.Vectors.{IsCanonical}
use Rattle.operation.specs.Ops.{stamped_of}
use Rattle.wire.specs.Bundles.{bundle_text}
use Rattle.wire.proofs.BundleBack.{AreBackIfSent}
use Rattle.wire.proofs.bundles.write_bundle.Given as goal

abbrev pub invariant-loop-op : goal.invariant-loop-op
invariant-loop-op l = record {
  left : l.text.items ++ bundle_text l.base (map stamped_of (drop l.op-index l.ops)) ≡ bundle_text [] (map stamped_of l.ops);
  canonical : IsCanonical l.base;
  back : AreBackIfSent l.base (map stamped_of (drop l.op-index l.ops)) → AreBackIfSent [] (map stamped_of l.ops);
}
