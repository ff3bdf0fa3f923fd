mod Worked
mod WorkedEnds
mod WorkedRings
pub mod Forms
pub mod Lines
mod TooFar
mod LongLine
mod ReadingFurther
mod StepCases
mod StepRemains
mod Steps
mod FeedRemains
pub mod Progress
pub mod CallEnds
pub mod BytesRead
pub mod Room
mod LastCall
pub mod Chunks
mod LinesInTurn
mod OutputLaws
mod RingLines
mod RingLinesUses
mod ChunksUses
mod LineByLine
mod LineByLineUses
