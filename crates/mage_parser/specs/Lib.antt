pub mod Reads
pub mod Constants
pub mod Expressions
pub mod Statements
pub mod Faults
pub mod Laws
