pub mod ShortBuffer
mod WorkedReplies
