pub mod Masks
pub mod Plots
