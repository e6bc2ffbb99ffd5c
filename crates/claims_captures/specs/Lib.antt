pub mod Reasons
pub mod Captured
pub mod Fed
