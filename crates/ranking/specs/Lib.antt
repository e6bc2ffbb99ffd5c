pub mod Ranking
pub mod Methods
pub mod Best
