pub mod RestLemmas
pub mod ReadyLemmas
