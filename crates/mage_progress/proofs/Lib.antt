pub mod Quiet
pub mod Tracking
pub mod Stuck
pub mod Shrinking
pub mod Lying
pub mod MachineLemmas
