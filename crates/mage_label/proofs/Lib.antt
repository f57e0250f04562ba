pub mod LabelLemmas
pub mod MessageLemmas
