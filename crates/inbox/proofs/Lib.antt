-- What waits at keys, and which of it is ready.
pub mod AwaitOrder
pub mod Blocked
pub mod FirstReady
pub mod KeyedOps
pub mod KeptAwaits
pub mod KeptOps
pub mod MovedAwaits
pub mod Ready
-- Re-exported from the crates below, for users of this one.
pub use Rattle.document.proofs.version
pub use Rattle.document.proofs.operation
pub use Rattle.document.proofs.oplog
