pub mod Lists
pub mod InputText
pub mod OutputText
pub mod Reading
