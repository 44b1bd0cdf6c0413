pub mod Disks
pub mod Stops
pub mod Ends
