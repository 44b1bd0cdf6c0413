pub mod Kept
pub mod Counts
pub mod Links
pub mod Refusals
