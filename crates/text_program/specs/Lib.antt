pub mod Program
pub mod Stream
pub mod Chunks
pub mod LineByLine
pub mod RingLines
