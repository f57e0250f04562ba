pub mod Bits
pub mod Modular
