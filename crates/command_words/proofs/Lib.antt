pub mod Options
pub mod Turns
pub mod Walks
pub mod Entering
pub mod Said
pub mod Fitting
