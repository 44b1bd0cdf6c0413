pub mod Entries
pub mod Causes
pub mod Standings
-- definitions, and proofs, which ghost fields name: IsConsistentDesk-prop and StandsSince-prop
pub mod Kept
pub mod Stored
pub mod Mediums
pub mod Lives
pub mod Desks
pub mod Replays
pub mod Replying
pub mod Joining
