pub mod BufferLaws
pub mod FieldLaws
mod DigitLaws
mod SignLaws
mod WorkedFields
