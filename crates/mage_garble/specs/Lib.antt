pub mod Sending
pub mod Rule
pub mod Lawful
pub mod Laws
