pub mod Demands
pub mod Causes
pub mod Demand1
