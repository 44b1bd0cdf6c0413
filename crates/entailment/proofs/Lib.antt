mod ClauseCount
pub mod LogNodes
mod LogForms
mod LogItems
mod ViewForms
mod LogBeginnings
mod OpenViews
mod KeptClauses
mod CostBounds
mod SmallNumbers
mod Verdicts
pub mod Crossing
