pub mod Scans
pub mod Moves
pub mod Order
pub mod OfStates
pub mod Fronts
pub mod Failing
pub mod Unique
