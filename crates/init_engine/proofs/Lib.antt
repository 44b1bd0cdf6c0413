pub mod Reasons
pub mod Visiting
pub mod Apart
pub mod Running
