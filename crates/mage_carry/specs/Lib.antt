pub mod Opcode
pub mod State
pub mod Steps
pub mod Carrying
pub mod Jobs
pub mod Views
