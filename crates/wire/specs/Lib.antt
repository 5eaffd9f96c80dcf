-- What lines and their parts are, and operations and vectors as JSON.
pub mod Forms
pub mod Lines
pub mod OpIds
pub mod Vectors
pub mod Deltas
pub mod Places
pub mod Operations
pub mod Reading
pub mod Parts
pub mod Sent
pub mod Writing
pub mod Messages
pub mod Profiles
pub mod Bundles
