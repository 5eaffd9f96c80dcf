-- What is sent as text and read back, what a client has submitted of a text, and what tokens of different engines answer.
pub mod EndedLines
pub mod SentBack
pub mod SentHistories
pub mod Submissions
pub mod AlikeReadings
pub mod TakenLines
