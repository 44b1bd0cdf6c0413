pub mod Additions
pub mod Digits
pub mod Entries
pub mod Lines
