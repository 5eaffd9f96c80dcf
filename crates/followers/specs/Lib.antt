-- What a follower takes in, and what a feed has sent.
pub mod Feeds
