pub mod At
pub mod Changed
pub mod Given
pub mod LeastPowers
pub mod SoundFacts
pub mod Determined
pub mod Ended
pub mod Opens
pub mod Kept
pub mod Members
pub mod Placed
pub mod Stepped
pub mod WorkedExample
pub mod Below
pub mod PlacesComputed
pub mod Ascending
pub mod StepsComputed
mod TooWideLemmas
