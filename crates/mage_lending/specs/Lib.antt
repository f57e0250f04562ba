pub mod Stores
pub mod Names
pub mod Sinks
pub mod Sources
