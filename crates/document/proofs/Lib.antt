-- Lemmas on documents.
pub mod Consistent
pub mod MissingOps
pub mod MissingBefore
pub mod AmongNamed
pub mod PositionsOfIds
pub mod ReceivedFaults
pub mod CheckedOperations
pub mod AllApplied
pub mod LawfulNext
-- Re-exported from the crates below, for users of this one.
pub use Rattle.oplog.proofs.version
pub use Rattle.oplog.proofs.operation
pub use Rattle.oplog.proofs as oplog
