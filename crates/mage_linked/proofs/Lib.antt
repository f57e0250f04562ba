pub mod WorkerLemmas
pub mod EmissionLemmas
pub mod LinkedLemmas
pub mod TransferLemmas
