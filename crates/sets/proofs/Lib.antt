pub mod Cases
pub mod Members
pub mod States
