pub mod Others
pub mod OtherWorld
