pub mod ByKind
pub mod Unique
pub mod AnyKey
