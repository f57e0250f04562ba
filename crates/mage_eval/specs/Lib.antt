pub mod Reading
pub mod Rule
pub mod Lawful
pub mod Laws
