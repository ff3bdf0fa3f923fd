pub mod Distances
pub mod Comparison
pub mod ComparisonLaws
