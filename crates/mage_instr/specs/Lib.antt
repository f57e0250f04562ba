pub mod Opcodes
pub mod Ands
pub mod Computed
pub mod Sound
pub mod Inputs
pub mod Trace
pub mod Limits
