pub mod FixAnswers
pub mod private
