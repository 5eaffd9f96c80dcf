pub mod StepsLeft
pub mod PushedSteps
pub mod WrongLengths
pub mod WrittenBack
