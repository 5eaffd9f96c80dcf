-- Lemmas on histories that are published.
pub mod Prefixes
pub mod Adding
pub mod Shows
