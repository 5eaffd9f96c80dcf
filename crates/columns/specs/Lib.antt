-- What the columns of a tree are to contracts.
pub mod Rank
pub mod Entries
pub mod Kinds
pub mod Held
pub mod RisingCounters
pub mod Marks
pub mod ReplicaColumns
pub mod HeldTags
pub mod Keys
pub mod Prefix
pub mod ShortKeys
pub mod Numbered
pub mod NumberColumns
pub mod Flagged
pub mod Orders
pub mod Blocks
