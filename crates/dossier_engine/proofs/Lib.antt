pub mod Telling
pub mod Showing
pub mod Reading
pub mod Checking
pub mod Causes
