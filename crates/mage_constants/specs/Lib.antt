pub mod Answer
pub mod Tokens
pub mod Ranges
pub mod Constants
