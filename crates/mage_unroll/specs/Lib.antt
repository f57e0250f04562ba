pub mod Limits
pub mod Kinds
pub mod State
pub mod Expressions
pub mod Statements
pub mod Unrolled
pub mod Unroller
