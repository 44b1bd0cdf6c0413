pub mod Sizes
pub mod Keeping
pub mod Asking
mod Examining
mod Costs
mod SameLogs
mod TwoDigits
pub mod Crossing
