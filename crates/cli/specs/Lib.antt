pub mod Faults
pub mod Plays
pub mod Runs
pub mod Words
