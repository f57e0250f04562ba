pub mod Directives
