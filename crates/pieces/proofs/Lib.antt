pub mod Turns
pub mod Filling
pub mod Keeping
pub mod Feeding
pub mod Stops
pub mod Unique
pub mod UniqueFilling
