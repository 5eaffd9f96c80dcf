pub mod CommandTexts
pub mod NoFloats
pub mod ReadBack
pub mod TakenCommands
pub mod TakenParts
pub mod Tokens
pub mod WrittenBack
pub mod WrongLengths
-- Re-exported from the crates below, for users of this one.
pub use Rattle.wire.proofs as wire
