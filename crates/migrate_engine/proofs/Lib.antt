pub mod Apart
pub mod Halves
pub mod Making
pub mod Filling
pub mod Running
