pub mod Answer
pub mod Fronts
pub mod Least
pub mod Loading
pub mod Summary
pub mod MemoryProgram
pub mod Agreeing
