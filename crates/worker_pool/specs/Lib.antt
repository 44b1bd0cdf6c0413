pub mod Hands
pub mod NumberRule
pub mod Drawers
pub mod Jobs
pub mod Workers
pub mod Runs
pub mod Seats
