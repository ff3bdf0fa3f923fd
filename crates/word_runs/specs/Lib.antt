pub mod Bits
pub mod private
