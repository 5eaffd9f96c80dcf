-- A step of the writer in which no allocation fails, and what it leaves of an engine.
pub mod GrantedTurns
