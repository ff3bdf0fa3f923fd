pub mod Fields
pub mod MappedTotals
pub mod Operands
pub mod WithinLimits
pub mod ProductTest
pub mod Reading
pub mod Worked
