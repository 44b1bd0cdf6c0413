pub mod Uses
pub mod Numbers
pub mod Readings
pub mod Matched
