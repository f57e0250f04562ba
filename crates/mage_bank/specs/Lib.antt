pub mod Bank
pub mod Jobs
