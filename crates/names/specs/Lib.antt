pub mod Classes
pub mod Names
pub mod Orders
pub mod PathLaws
pub mod Paths
