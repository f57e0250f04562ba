pub mod Fronts
pub mod GapLemmas
pub mod LawLemmas
pub mod Numbers
pub mod Pieces
pub mod PlaceLemmas
pub mod SymbolLemmas
pub mod TokenLemmas
