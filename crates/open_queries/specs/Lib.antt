pub mod Instances
pub mod Opening
pub mod Memory
