pub mod ListAnswer
pub mod WalkAnswers
