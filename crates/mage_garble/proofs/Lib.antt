pub mod Saying
mod Failing
mod Adding
pub mod Fitting
