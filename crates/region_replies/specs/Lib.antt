pub mod RegionReply
