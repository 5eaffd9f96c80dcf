-- What contracts say of names and limits.
pub mod Refusals
pub mod Members
pub mod Configurations
pub mod Tables
pub mod Ids
pub mod Vectors
pub mod Growing
pub mod SameVectors
