pub mod Leaving
pub mod Loading
pub mod Entries
pub mod Planning
pub mod Standing
pub mod Bringing
pub mod PlansOf
