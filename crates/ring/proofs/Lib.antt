pub mod Search
pub mod Unique
