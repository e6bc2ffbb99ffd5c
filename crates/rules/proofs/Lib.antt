pub mod Ends
pub mod Apart
pub mod Unique
pub mod Refusals
pub mod Sizes
pub mod Still
