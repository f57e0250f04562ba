pub mod Plain
pub mod Carried
pub mod Cut
pub mod Renamed
