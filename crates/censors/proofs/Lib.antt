pub mod Probing
pub mod Found
pub mod Objections
pub mod Costs
mod Lanes
mod Parting
pub mod Gathering
pub mod Crossing
pub mod Adding
