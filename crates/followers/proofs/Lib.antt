-- What is sent, and what is ahead, are the first entries of a history.
pub mod Sending
