pub mod TableTest
