pub mod Rosters
pub mod Unique
