-- A document as numbered nodes, and what is written along a path.
pub mod Nodes
pub mod Nested
pub mod Shown
pub mod Writes
pub mod Answers
pub mod Trees
pub mod Glances
pub mod Spots
pub mod Lending
