pub mod TakenWrites
pub mod WrongLengths
