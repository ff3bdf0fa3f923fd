pub mod LeadingDigits
mod DigitCases
pub mod Signs
mod SignedDigits
mod WorkedNumbers
