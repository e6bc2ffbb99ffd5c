pub mod OfPackets
pub mod Unique
