-- The invariant of a session is preserved, and what it writes, receives, answers and replays.
pub mod Keeping
pub mod Writing
pub mod Draining
pub mod Replaying
pub mod TakenLines
pub mod FirstLines
pub mod Receiving
pub mod SentHistories
pub mod Answering
