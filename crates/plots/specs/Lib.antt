pub mod Front
pub mod LoopSteps
