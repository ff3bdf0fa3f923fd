pub mod Stepping
pub mod private
