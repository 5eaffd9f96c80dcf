-- What an inbox holds, and what it answers.
pub mod Awaiting
pub mod Inboxes
-- Re-exported from the crates below, for users of this one.
pub use Rattle.document.specs.value
pub use Rattle.document.specs.cursor
pub use Rattle.document.specs.operation
pub use Rattle.document.specs.oplog
pub use Rattle.document.specs as document
