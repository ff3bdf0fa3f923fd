pub mod Composition
pub mod MovedTwice
pub mod ShiftedCentre
