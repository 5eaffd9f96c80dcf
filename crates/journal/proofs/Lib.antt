pub mod StoredEntries
pub mod TakenNext
