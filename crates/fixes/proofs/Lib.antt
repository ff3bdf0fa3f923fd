mod Quotients
mod BySize
mod CoordinateLaws
pub mod ReadingLaw
