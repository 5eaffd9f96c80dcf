-- What a replica makes, appends, keeps and drops.
pub mod MadeOperations
pub mod OpenedReplicas
pub mod OwnEntries
pub mod KeptOperations
pub mod Turns
pub mod Leaving
pub mod Dropping
-- What a handler appends, receives and drains.
pub mod Received
pub mod Own
pub mod Draining
pub mod Peers
-- Re-exported from the crates below, for users of this one.
pub use Rattle.inbox.proofs.version
pub use Rattle.inbox.proofs.operation
pub use Rattle.inbox.proofs.oplog
