pub mod OrderKinds
pub mod OrderParsing
pub mod OrderSources
