-- What a bench may be asked to play, what engines show, what a worker submits, and what it has read back.
pub mod Plans
pub mod Showing
pub mod Workers
