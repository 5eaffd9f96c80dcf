-- Where in a document something stands: what the types mean, places by their paths, and when two are the same.
pub mod Steps
pub mod Places
pub mod SamePlaces
-- Re-exported from the crates below, for users of this one.
pub use Rattle.value.specs as value
