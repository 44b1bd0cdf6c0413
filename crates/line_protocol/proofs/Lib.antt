pub mod Blanks
pub mod Digits
pub mod FirstLine
pub mod Positions
pub mod RequestCases
pub mod Returns
pub mod Searched
pub mod Windows
