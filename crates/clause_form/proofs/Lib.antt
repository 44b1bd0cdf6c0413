pub mod Beginnings
pub mod Cuts
pub mod Disjunctions
pub mod FactSigns
pub mod ModelWorlds
pub mod NumberedEntries
