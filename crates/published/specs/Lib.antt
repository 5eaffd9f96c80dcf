-- What is published, and who sees it.
pub mod Beginnings
pub mod Rules
pub mod Copies
pub mod Publishers
pub mod Tokens
-- Re-exported from the crates below, for users of this one.
pub use Rattle.document.specs.operation
