pub mod Numbers
pub mod Garbling
pub mod Evaluating
pub mod Reckoning
pub mod Streams
pub mod Laws
