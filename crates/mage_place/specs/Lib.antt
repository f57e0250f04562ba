pub mod Classes
pub mod Live
pub mod TooWide
pub mod Places
pub mod Steps
pub mod Pages
pub mod Pools
pub mod Placing
