pub mod Calls
pub mod Moments
pub mod Streams
pub mod Visits
pub mod Dials
pub mod Rises
pub mod Taken
