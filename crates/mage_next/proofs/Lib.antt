pub mod FirstUses
pub mod TraceLiterals
pub mod OneNext
