pub mod Numbers
pub mod ReadLines
pub mod OrderTexts
