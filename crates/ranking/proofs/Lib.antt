pub mod Choice
pub mod Unsafe
pub mod Instances
pub mod Figures
pub mod Unique
pub mod Scan
pub mod Loop
