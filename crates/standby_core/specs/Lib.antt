pub mod Frames
pub mod Calls
-- proofs, which a ghost field names; no definitions
pub mod CallProps
pub mod Mirrors
pub mod MirroredDisks
pub mod Named
pub mod Places
pub mod Slots
pub mod MirrorSets
pub mod Users
pub mod Doors
pub mod Copies
pub mod Books
pub mod Lasting
pub mod Exchanges
