-- The lines of a journal, what they bring back, and how a loss of some of them shows.
pub mod Lines
pub mod Replays
pub mod Lost
-- Re-exported from the crate below, for users of this one.
pub use Rattle.requests.specs.wire
