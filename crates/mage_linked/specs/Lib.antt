pub mod Workers
pub mod Emission
pub mod Transfers
pub mod Linked
