pub mod Quiet
pub mod Dealt
mod FileLemmas
