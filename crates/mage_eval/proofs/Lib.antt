mod Bytes
mod Colours
mod Failing
pub mod PuttingOut
