pub mod Numbers
pub mod Telling
pub mod Running
pub mod Reckoning
pub mod Meaning
pub mod Programs
pub mod Carrying
