pub mod Shown
pub mod Ends
pub mod Accepted
pub mod Input
pub mod Checks
pub mod Said
