pub mod Admitting
pub mod OfLooking
pub mod Whole
pub mod Unique
