pub mod Centroid
pub mod Answers
pub mod private
