-- Places by their keys, and the faults that an operation shows without a history.
pub mod PlaceKeys
pub mod AloneFaults
pub mod StandingAlone
pub mod SameSubmissions
-- Re-exported from the crates below, for users of this one.
pub use Rattle.version.proofs as version
pub use Rattle.cursor.proofs as cursor
