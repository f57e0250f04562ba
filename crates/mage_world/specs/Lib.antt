pub mod Slots
pub mod Seats
pub mod Turns
pub mod Worlds
pub mod Ready
pub mod Progress
pub mod Rooms
pub mod Cores
