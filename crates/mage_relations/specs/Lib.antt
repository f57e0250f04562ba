pub mod Each
pub mod Unplaced
