-- What a document holds, and what it answers.
pub mod Documents
pub mod Checks
pub mod Lawful
-- Re-exported from the crates below, for users of this one.
pub use Rattle.oplog.specs.value
pub use Rattle.oplog.specs.cursor
pub use Rattle.oplog.specs.operation
pub use Rattle.oplog.specs as oplog
pub use Rattle.tree.specs as tree
pub use Rattle.oplog.specs.version
