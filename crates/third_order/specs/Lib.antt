pub mod ThirdTerms
pub mod ThirdCall
pub mod ThirdPieces
pub mod ThirdLaws
pub mod FormulaEleven
