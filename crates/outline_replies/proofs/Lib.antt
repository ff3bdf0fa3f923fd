pub mod Numbers
pub mod Told
mod WorkedReplies
