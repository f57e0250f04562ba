pub mod Chains
mod Freeing
pub mod Narrow
mod Tables
pub mod Turns
pub mod Walks
