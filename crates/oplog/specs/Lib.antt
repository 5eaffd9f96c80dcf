-- What a log holds, and what it finds.
pub mod Logs
-- Re-exported from the crates below, for users of this one.
pub use Rattle.operation.specs.value
pub use Rattle.operation.specs.cursor
pub use Rattle.operation.specs as operation
pub use Rattle.operation.specs.version
