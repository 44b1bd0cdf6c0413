pub mod Faults
pub mod Streams
pub mod MemoryStreams
pub mod Disk
pub mod Record
-- proofs, which ghost members name; no definitions
pub mod RecordLaws
pub mod MemoryDisk
pub mod MemoryFiles
pub mod MemoryShelves
pub mod Shelf
pub mod Places
pub mod MemoryDisks
pub mod Visits
pub mod Dials
pub mod MemoryDoors
pub mod MemoryDials
pub mod MemoryLinks
