pub mod LineLength
