-- definitions, and a proof, which a ghost member of `TrailEntry` names: parts_same
pub mod Entries
pub mod PlainStates
pub mod Assigning
pub mod AssignmentFields
pub mod Watching
pub mod WatchesInside
pub mod IndexedStates
pub mod Costs
pub mod Lines
pub mod RightEnds
pub mod Beginnings
pub mod Bases
pub mod KeptStates
pub mod KeptClauses
