pub mod Parts
pub mod Reading
pub mod Written
pub mod Unique
