pub mod Filled
pub mod Choices
pub mod Quantifiers
pub mod Printed
pub mod Refusing
pub mod Grids
