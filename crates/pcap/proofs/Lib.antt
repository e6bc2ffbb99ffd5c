pub mod Files
pub mod Answered
pub mod UniqueReaders
pub mod Unique
