pub mod Turned
pub mod Renaming
pub mod Ranges
pub mod Passed
pub mod Whole
pub mod Faultless
