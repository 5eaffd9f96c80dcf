-- Version vectors: for each replica the greatest counter that is named.
pub use Rattle.ids.specs.Vectors.{Vector, at, greatest, covers, is_at_most, raise, AreAbove, IsCanonical}
