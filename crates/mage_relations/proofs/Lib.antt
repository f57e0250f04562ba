pub mod Keeping
pub mod EachLemmas
pub mod Circuits
pub mod Instructions
pub mod Runs
