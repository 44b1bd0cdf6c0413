pub mod Clashing
pub mod LiteralSets
