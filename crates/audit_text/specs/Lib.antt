pub mod Said
pub mod Text
pub mod Json
pub mod Rows
