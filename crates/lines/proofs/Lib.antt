pub mod WalkLines
pub mod EndLines
