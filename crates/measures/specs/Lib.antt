-- What each kernel answers and leaves.
pub mod Answers
