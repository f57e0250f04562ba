pub mod Examples
pub mod Plainly
