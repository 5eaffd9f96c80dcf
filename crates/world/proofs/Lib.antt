-- Lemmas on worlds.
pub mod Results
pub mod SingleSteps
pub mod LearnedAnswers
pub mod Publishing
pub mod WholeSteps
pub mod SubmittedRequests
pub mod TakenRequests
pub mod AnsweredHellos
pub mod TurnedWorlds
pub mod ReachedWorlds
pub mod DrawnWaiting
pub mod BetweenEngines
pub mod StoppedWorlds
pub mod StoppedReceipts
pub mod TruePolls
-- Re-exported from the crates below, for users of this one.
pub use Rattle.wire.proofs as wire
