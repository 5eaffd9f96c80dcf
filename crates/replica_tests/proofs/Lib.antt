-- What the tests rest on.
pub mod KeptSerials
