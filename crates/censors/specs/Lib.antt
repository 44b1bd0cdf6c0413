pub mod Guards
pub mod GuardsInside
pub mod Found
pub mod Asked
pub mod Admitting
pub mod Costs
pub mod Lent
pub mod Parts
