-- What engines send to one another, and what a client does with what it receives.
pub mod Sending
pub mod Receiving
-- Re-exported from the crates below, for users of this one.
pub use Rattle.engine.specs.value
pub use Rattle.engine.specs.operation
pub use Rattle.engine.specs.document
pub use Rattle.engine.specs as engine
