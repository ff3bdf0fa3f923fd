pub mod MaskReply
