pub mod Newlines
mod WorkedLengths
