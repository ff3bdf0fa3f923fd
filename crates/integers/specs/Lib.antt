pub mod Search
pub mod Rounding
