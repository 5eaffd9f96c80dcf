-- Commands and questions as JSON: what is read as one, how it is written, and what is replied.
pub mod Expressions
pub mod Commands
pub mod Questions
pub mod Taken
pub mod Written
pub mod Readings
pub mod Glances
-- Re-exported from the crates below, for users of this one.
pub use Rattle.document.specs.operation
pub use Rattle.document.specs as document
pub use Rattle.wire.specs as wire
