mod Assigning
mod Counting
mod KindLemmas
mod KindStatements
mod Listing
mod SoundEffects
pub mod SoundExpressions
mod SoundLists
mod SoundNames
pub mod SoundPlaces
pub mod SoundPrograms
pub mod SoundStates
mod SoundStatements
mod Trees
mod Turns
