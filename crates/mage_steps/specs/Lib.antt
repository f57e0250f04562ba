pub mod Frames
pub mod Engines
pub mod Core
pub mod Orderly
pub mod Laws
