pub mod Orderliness
pub mod Moving
pub mod Order
pub mod Ending
