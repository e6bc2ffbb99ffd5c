pub mod Refused
pub mod Contracts
