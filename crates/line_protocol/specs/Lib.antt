pub mod Buffer
pub mod Feeds
pub mod Logins
pub mod Reads
pub mod Replies
pub mod Requests
pub mod Rests
pub mod Words
