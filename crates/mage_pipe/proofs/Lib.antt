mod Few
mod FitsTrace
mod JobCounts
mod Judging
pub mod LeastReads
mod Walking
mod Joining
pub mod PlanningLemmas
mod Accepted
pub mod Alike
