pub mod Garbled
pub mod Meant
