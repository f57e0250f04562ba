pub mod Giving
pub mod Files
pub mod Closing
pub mod Opening
pub mod Reading
