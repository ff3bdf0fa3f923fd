pub mod OutlineReply
