pub mod Pages
pub mod FileTables
pub mod Ledgers
pub mod FailLists
