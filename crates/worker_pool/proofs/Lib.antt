pub mod Sums
pub mod Keeps
pub mod Running
pub mod Seating
pub mod Serving
