-- How a document answers calls.
pub mod Desks
-- Re-exported from the crates below, for users of this one.
pub use Rattle.session.specs.records
