-- The bytes of a store, and of the journal that it keeps.
pub mod Shelves
pub mod WholeLines
