pub mod Numbers
pub mod LeadingNumber
pub mod private
