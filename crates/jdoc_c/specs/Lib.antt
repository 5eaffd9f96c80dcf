-- What a handle owns, what calls of handles return, and what they leave.
pub mod Slot
pub mod Statuses
pub mod Replies
pub mod Openings
pub mod Handles
