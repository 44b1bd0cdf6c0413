pub mod Statements
pub mod Memory
pub mod Said
pub mod Script
pub mod Case
-- definitions, and a proof, which a ghost field names: IsSound-prop
pub mod Sound
pub mod Scripts
pub mod ScriptsRead
pub mod SchemaRefusal
pub mod Answering
pub mod Written
