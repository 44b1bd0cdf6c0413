pub mod Settling
pub mod Pairs
pub mod Asking
mod Examining
pub mod DeskSettles
pub mod Closing
pub mod Crossing
mod Lives
