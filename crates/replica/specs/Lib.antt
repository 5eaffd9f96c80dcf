-- What contracts see of a replica, and of a handler.
pub mod Replicas
pub mod Turns
pub mod Handlers
-- Re-exported from the crates below, for users of this one.
pub use Rattle.inbox.specs.value
pub use Rattle.inbox.specs.cursor
pub use Rattle.inbox.specs.operation
pub use Rattle.inbox.specs.oplog
pub use Rattle.inbox.specs.document
pub use Rattle.inbox.specs as inbox
