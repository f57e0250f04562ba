pub mod Replacing
pub mod Planning
pub mod Standing
pub mod Bringing
pub mod PlanOf
