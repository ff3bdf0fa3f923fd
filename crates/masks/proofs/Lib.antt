mod AnswerReadings
mod Kept
mod NextRun
mod RunsLeft
mod RunsOfWord
mod Written
mod WrongLengths
mod RowOfWords
