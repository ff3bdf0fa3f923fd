pub mod Floats
pub mod EveryWhole
pub mod private
