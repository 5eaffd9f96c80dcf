-- What the types of this crate mean, and what its functions leave.
pub mod Acts
pub mod Publishers
pub mod Engines
pub mod Parts
pub mod Worlds
pub mod Polls
-- Re-exported from the crates below, for users of this one.
pub use Rattle.replica.specs.value
pub use Rattle.replica.specs.cursor
pub use Rattle.replica.specs.operation
pub use Rattle.replica.specs.document
pub use Rattle.wire.specs as wire
