pub mod Positions
pub mod WordCells
