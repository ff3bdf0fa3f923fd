pub mod ThirdAnswers
