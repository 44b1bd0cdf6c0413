pub mod Served
pub mod Opened
pub mod Standing
