-- members and their order
pub mod LongerLists
pub mod Rising
pub mod InOrder
-- vectors
pub mod CanonicalVectors
pub mod RaisedVectors
pub mod SearchedVectors
pub mod FewNamed
-- tables
pub mod Tables
