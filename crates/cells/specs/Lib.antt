pub mod RunCells
pub mod RegionCall
pub mod RegionLaws
pub mod private
