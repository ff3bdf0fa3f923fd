pub mod Feeding
pub mod private
