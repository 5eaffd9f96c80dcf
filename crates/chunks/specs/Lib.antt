-- What a list in chunks is to contracts.
pub mod Chunks
pub mod Places
