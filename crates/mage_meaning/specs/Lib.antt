pub mod Given
pub mod Laws
pub mod Means
pub mod Run
pub mod Value
