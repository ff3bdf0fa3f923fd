pub mod SumLaws
pub mod RowSums
pub mod GroundSums
pub mod GroundBounds
mod WorkedGround
mod GroundUses
