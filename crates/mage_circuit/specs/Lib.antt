pub mod Results
pub mod Windows
pub mod Numbers
pub mod Tally
pub mod TallyLaws
