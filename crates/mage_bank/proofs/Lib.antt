pub mod Banking
mod Packing
pub mod Fitting
