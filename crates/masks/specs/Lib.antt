pub mod MaskAnswers
pub mod private
