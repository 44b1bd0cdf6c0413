pub mod Replica
pub mod Standby
