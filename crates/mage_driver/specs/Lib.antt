pub mod Rules
pub mod Calls
pub mod Circuits
pub mod Operations
pub mod Counts
pub mod Gates
