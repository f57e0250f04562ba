pub mod Laws
mod Maps
mod Walks
