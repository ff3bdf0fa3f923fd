pub mod FormsRead
pub mod StepAnswers
pub mod LineLaws
