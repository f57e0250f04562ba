pub mod Runs
pub mod Meant
