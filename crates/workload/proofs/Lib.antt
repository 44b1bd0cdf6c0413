pub mod Drawing
pub mod Stating
pub mod Lining
pub mod Worlds
pub mod Asking
pub mod Trees
pub mod Policies
pub mod Asks
