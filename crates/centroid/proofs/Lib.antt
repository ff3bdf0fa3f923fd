pub mod CallLaws
pub mod ReadingLaw
pub mod WorkedCentres
pub mod CentreLimits
pub mod Limits
