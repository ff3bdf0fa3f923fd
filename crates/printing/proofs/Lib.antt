pub mod LineLengths
pub mod NothingWritten
mod WorkedOutput
