pub mod LogStore
pub mod LogDesk
