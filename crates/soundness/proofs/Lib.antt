pub mod Sounding
pub mod Marking
