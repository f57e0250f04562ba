pub mod PlaceLemmas
mod QueueLemmas
mod RowLemmas
mod CallLemmas
mod PopLemmas
