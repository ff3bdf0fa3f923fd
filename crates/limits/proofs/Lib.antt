pub mod Fields
pub mod TotalSums
pub mod ZeroTest
