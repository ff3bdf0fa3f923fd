pub mod Composition
pub mod MovedTwice
pub mod ShiftedCentre
mod WorkedMoves
mod MoveUses
mod ShiftUses
