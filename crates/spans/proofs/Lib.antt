pub mod Scans
pub mod Zeros
pub mod Unique
