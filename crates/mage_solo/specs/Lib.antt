pub mod Stores
pub mod Plain
pub mod Garbling
pub mod Evaluating
pub mod Fronts
