pub mod Making
pub mod Spelled
pub mod Printing
