pub mod FixReply
