pub mod Sums
pub mod Lent
