pub mod RunRules
pub mod RulePlaces
pub mod RegionCases
pub mod RefusalLaw
mod NumberChosen
pub mod LowestIndex
pub mod Tests
pub mod GridLaws
pub mod ClosedSums
mod AnnexSums
pub mod ScanLaws
pub mod AnswerReading
pub mod RegionGround
pub mod UniqueCells
pub mod WorkedRun
pub mod RunLimits
pub mod WorkedIndices
pub mod OnlyAnswers
mod RegionUses
mod IndexUses
