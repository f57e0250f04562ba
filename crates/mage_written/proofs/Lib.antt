pub mod Arguments
pub mod Values
pub mod Passes
pub mod Files
pub mod Renamed
