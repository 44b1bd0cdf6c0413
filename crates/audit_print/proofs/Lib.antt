pub mod Serving
pub mod Each
pub mod Atoms
pub mod Listing
pub mod Auditing
pub mod Pairing
