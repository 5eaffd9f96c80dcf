-- What is sent to peers: what was stored.
pub mod Outgoing
-- Re-exported from the crates below, for users of this one.
pub use Rattle.peer_sync.specs as peer_sync
pub use Rattle.records.specs as records
pub use Rattle.records.specs.wire
