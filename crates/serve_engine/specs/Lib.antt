pub mod Served
pub mod Alike
pub mod Members
-- definitions, and a proof, which a ghost field names: SeesLegally-prop
pub mod Held
pub mod Jobs
pub mod Passing
pub mod Doors
pub mod Sharing
pub mod Serving
-- proofs, which ghost members of a job name; no definitions
pub mod Keeping
pub mod Joining
