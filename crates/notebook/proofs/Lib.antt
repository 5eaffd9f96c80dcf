pub mod ClientSteps
pub mod TakenLines
