pub mod Others
pub mod Said
pub mod Audits
pub mod Found
pub mod Listed
