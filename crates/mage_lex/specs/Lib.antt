pub mod Limits
pub mod Bytes
pub mod Words
pub mod Symbols
pub mod Names
pub mod Places
pub mod Tokens
pub mod Laws
