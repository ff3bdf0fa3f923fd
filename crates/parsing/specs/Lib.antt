pub mod Grammar
pub mod ReadForm
pub mod private
