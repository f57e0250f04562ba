-- What the contracts of this crate cite.
pub mod Cost
pub mod Kept
pub mod Placed
pub mod Plan
pub mod Rule
pub mod Uses
