-- Histories as the lists that begin with the oldest, where their operations stand, and which of them are missing.
pub mod Oldest
pub mod Missing
pub mod Found
pub mod Positions
pub mod JoinedTables
pub mod Room
pub mod KnownMembers
pub mod LongerHistories
pub mod PlacedIds
-- Re-exported from the crates below, for users of this one.
pub use Rattle.operation.proofs.version
pub use Rattle.operation.proofs as operation
