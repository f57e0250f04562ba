pub mod Codes
pub mod Rules
pub mod Stores
pub mod Formats
pub mod Grammar
pub mod Laws
