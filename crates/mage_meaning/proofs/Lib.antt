mod Agree
mod EffectLemmas
mod EmissionLemmas
mod ExpressionLaw
mod InputLemmas
mod MoveLemmas
mod PlaceLemmas
pub mod ProgramLaw
mod Runs
mod ScopeLemmas
mod StatementLaw
mod TreeLemmas
mod TurnLemmas
mod WorkerLists
mod Wrapping
