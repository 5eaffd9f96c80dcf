-- What contracts see of writers and clients, and what a step of the writer does.
pub mod WriterSteps
pub mod Clients
-- Re-exported from the crates below, for users of this one.
pub use Rattle.replica.specs.value
pub use Rattle.replica.specs.operation
pub use Rattle.replica.specs.oplog
pub use Rattle.replica.specs.document
pub use Rattle.command.specs.published
pub use Rattle.command.specs as command
