pub mod Fractions
pub mod RoundedLaws
pub mod Fields
pub mod EveryWhole
pub mod WorkedFloats
mod EveryWholeUses
pub mod FloatOrder
