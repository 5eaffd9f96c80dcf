-- Lemmas on workers, and on what engines show.
pub mod Submitting
pub mod Views
