pub mod ProgramLiterals
pub mod Tests
pub mod Running
pub mod Tabled
pub mod Walked
pub mod Together
pub mod Frames
