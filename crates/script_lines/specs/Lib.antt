pub mod Scripts
pub mod Lines
pub mod Read
pub mod Silence
