pub mod Written
pub mod Deeds
pub mod Settled
pub mod Flights
pub mod Through
pub mod Growing
pub mod Outputs
pub mod JointRuns
