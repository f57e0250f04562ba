pub mod Slots
pub mod SerialPort
pub mod Seals
pub mod SealedPort
