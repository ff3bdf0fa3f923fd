pub mod StepLaws
pub mod FeedLaws
