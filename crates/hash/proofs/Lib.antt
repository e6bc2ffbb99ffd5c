pub mod LowBits
pub mod Folds
pub mod Bounds
pub mod Unique
