pub mod SumBounds
