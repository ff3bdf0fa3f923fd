pub mod Lengths
pub mod Positions
pub mod Those
pub mod RunSteps
pub mod NextRuns
pub mod WordCells
pub mod WordGround
mod MarkedBits
mod RunsFrom
mod RunsCells
mod NoneTouch
mod EachLongest
mod OnlyLongest
mod RunsAccepted
mod WrittenRegion
mod MaskRefusals
mod MaskGround
mod OnesCounted
mod MaskLimits
mod WorkedMasks
mod MaskUses
