pub mod MaskCells
pub mod MaskCalls
pub mod MaskLaws
pub mod private
