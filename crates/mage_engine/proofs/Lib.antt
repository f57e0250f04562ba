mod Pages
mod Slots
mod Views
pub mod Advancing
mod Moving
mod Issuing
mod Finishing
mod Opening
mod Using
pub mod Calling
pub mod Doing
mod Passing
pub mod Staying
pub mod Along
pub mod Tallying
