pub mod Chunks
pub mod Lanes
pub mod Raised
pub mod Bits
