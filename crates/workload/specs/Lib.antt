pub mod Draws
pub mod Statements
pub mod Stated
pub mod Questions
pub mod Policies
pub mod Trees
pub mod Scripts
