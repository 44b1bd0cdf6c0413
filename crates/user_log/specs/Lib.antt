pub mod Replies
-- definitions, and proofs, which ghost fields name: IsConsistentLog-prop, AreGuardsOf-prop,
-- IsAmended-prop and KeepsLimits-prop
pub mod Kept
pub mod Asked
pub mod UserLogs
pub mod Nodes
pub mod Amended
pub mod Prepared
pub mod Undecided
pub mod Examining
pub mod Examiners
