-- What values mean, when two are the same, and their form in JSON.
pub mod Values
pub mod Forms
pub mod SameValues
