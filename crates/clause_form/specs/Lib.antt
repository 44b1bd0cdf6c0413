pub mod Forms
pub mod Inside
pub mod Models
pub mod Prefixes
pub mod Walks
