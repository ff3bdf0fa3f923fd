pub mod ThirdReply
