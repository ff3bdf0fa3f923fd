pub mod Sizes
pub mod ListSteps
pub mod WalkTotals
