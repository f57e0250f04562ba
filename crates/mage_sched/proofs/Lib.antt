mod Issues
mod Ahead
mod Walks
mod Kept
mod Numbers
mod Holders
mod Keeping
mod Coming
mod Spacing
mod Tables
mod Memories
mod Buffers
mod Arrivals
mod Turning
mod Course
pub mod Own
mod Housing
mod Beside
mod Homing
pub mod Planned
mod WorkedExample
