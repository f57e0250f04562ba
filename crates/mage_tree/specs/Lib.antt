pub mod Classes
pub mod Grammar
pub mod Sources
pub mod Laws
pub mod Words
pub mod Depth
pub mod FirstFault
