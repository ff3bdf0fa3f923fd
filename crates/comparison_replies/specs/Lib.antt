pub mod ComparisonReply
