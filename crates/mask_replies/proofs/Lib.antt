pub mod CountLaw
pub mod RunsReplyCases
pub mod Numbers
mod WorkedReplies
