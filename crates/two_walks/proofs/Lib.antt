pub mod Steps
mod Distances
mod Extremes
mod FarthestOff
pub mod Refusals
mod Parts
mod CallDistances
mod Exchanged
mod WithItself
mod FigureSizes
mod WorkedComparisons
mod ComparisonUses
