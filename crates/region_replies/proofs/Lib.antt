pub mod AnswerParts
pub mod IndexLaw
pub mod Numbers
mod WorkedReplies
