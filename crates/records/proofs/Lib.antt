pub mod BroughtBack
pub mod OwnLines
pub mod ReadBack
pub mod WrongLengths
-- Re-exported from the crate below, for users of this one.
pub use Rattle.requests.proofs.wire
