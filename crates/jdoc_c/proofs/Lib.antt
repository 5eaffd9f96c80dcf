pub mod AsBox
pub mod Growing
pub mod Feeding
pub mod Opening
pub mod Handing
