-- Why a whole step of a world does what a step of the writer does.
pub mod WholeSteps
