-- The invariant of a session, and what its receipts, answers and replays do.
pub mod Sessions
pub mod Receipts
pub mod Answers
pub mod Replays
-- Re-exported from the crates below, for users of this one.
pub use Rattle.replica.specs as replica
pub use Rattle.records.specs as records
pub use Rattle.records.specs.wire
