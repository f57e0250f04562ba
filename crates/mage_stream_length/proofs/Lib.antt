pub mod AndsAlone
pub mod Saying
pub mod Walking
mod Widths
