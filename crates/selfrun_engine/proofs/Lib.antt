pub mod Counting
pub mod Undisturbed
pub mod Workloads
