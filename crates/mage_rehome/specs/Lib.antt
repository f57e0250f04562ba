pub mod Rehomed
pub mod Earlier
