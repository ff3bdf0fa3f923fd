pub mod BitFloats
pub mod Calls
pub mod Draws
pub mod FullWalk
