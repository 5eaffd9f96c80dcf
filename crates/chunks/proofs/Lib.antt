-- Lists in chunks.
pub mod Positions
pub mod Joined
pub mod Spare
pub mod Spots
