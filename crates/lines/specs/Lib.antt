pub mod LineOutcome
