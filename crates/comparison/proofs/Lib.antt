mod DistanceSteps
mod FigureCases
pub mod ReadingLaws
