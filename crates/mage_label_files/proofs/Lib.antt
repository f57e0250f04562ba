pub mod Reading
mod Widths
