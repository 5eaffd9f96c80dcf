-- Lists in rings.
pub mod Straight
pub mod Slots
pub mod Turned
pub mod Around
pub mod Pushed
pub mod Sunk
pub mod Runs
