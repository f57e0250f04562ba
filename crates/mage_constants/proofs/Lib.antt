pub mod RangeLemmas
pub mod Trees
