mod ClosedFormula
pub mod SumBounds
pub mod Entries
mod WorkedSums
mod WorkedEntries
