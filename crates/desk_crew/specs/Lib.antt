pub mod Seats
pub mod Crew
pub mod Registered
pub mod Shelved
pub mod Openings
pub mod Refusals
pub mod Side
