pub mod InputLemmas
pub mod Logs
pub mod SoundLiterals
