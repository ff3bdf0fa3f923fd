pub mod CellSums
pub mod Ground
pub mod GroundLaws
pub mod private
