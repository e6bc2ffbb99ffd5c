pub mod Written
pub mod Filling
pub mod Reading
pub mod Unique
