pub mod Making
pub mod Counts
mod CountAnds
pub mod AndCounts
