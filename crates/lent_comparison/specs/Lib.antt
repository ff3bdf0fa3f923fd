pub mod WholeAnswer
