pub mod FormulaEleven
pub mod OddThirds
pub mod Accepted
pub mod ThirdPieces
pub mod ThirdLaws
pub mod ThirdSizes
pub mod WorkedThirds
pub mod ThirdUses
