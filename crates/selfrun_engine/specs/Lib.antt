pub mod Counting
pub mod Tallies
pub mod Outputs
pub mod Runs
