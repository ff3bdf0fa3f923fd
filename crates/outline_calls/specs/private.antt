pub mod Terms
pub mod Ended
