-- What operations mean, when two are the same, and the faults that an operation shows without a history.
pub mod Ops
pub mod Alone
pub mod SameOps
pub mod Submissions
pub mod SameSubmissions
-- Re-exported from the crates below, for users of this one.
pub use Rattle.cursor.specs.value
pub use Rattle.cursor.specs as cursor
pub use Rattle.version.specs as version
