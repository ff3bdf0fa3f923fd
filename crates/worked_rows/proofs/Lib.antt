pub mod Worked
pub mod Errors
mod WholeGrid
pub mod WorkedEntries
pub mod WorkedThirds
